-- What an edit leaves of a block that reaches no touched name: its expansion, the owners of what it
-- uses, and which of its uses are circular.
use Rattle.std.proofs.Common.{◌≡◌, ℕ, suc, ◌⊎◌, inl, inr, Bool, true, false, ◌||◌, List, [], ◌∷◌, ◌++◌, length, Option, Some, None, option_map, slice_get}
use Rattle.std.proofs.Common.{refl, sym, ◌∙◌, ap}
use Rattle.std.specs.Str.{bytes_eq}
use Rattle.std.proofs.lemmas.Bool.{or_parts}
use Rattle.std.proofs.lemmas.Option.{same_Some, none-some}
use Rattle.ti_source.specs.Reading.{Reading, ReadItem}
use Rattle.base_meaning.specs.Owner.{is_among, owner, owner_block}
use Rattle.ti_layout.specs.Values.{Mention}
use Rattle.base_meaning.specs.Expansion.{expand, expansion}
use Rattle.base_meaning.specs.Reaching.{Uses, IsUseWay, LeadsTo}
use Rattle.base_meaning.specs.Exchange.{PlacedBlock, Exchange, IsExchange, with_block, HasPlace, shifted_position}
use Rattle.base_meaning.specs.Dependents.{lookup_names_of, touched_names}
use Rattle.base_meaning.proofs.Owning.{nobody, somebody, owning}
use Rattle.base_meaning.proofs.Depth.{bounded}
use Rattle.base_meaning.proofs.Placing.{owned-with, owner-with, shifted-same}
use Rattle.base_meaning.proofs.KeptWays.{AgreeOff, IsFree, expand-kept, way-kept, way-free, way-both}

-- ---- names that are touched and names that are not

pub list_any-append : (n : List ℕ) (xs ys : List (List ℕ)) → is_among n (xs ++ ys) ≡ (is_among n xs || is_among n ys)
list_any-append n [] ys = refl
list_any-append n (x ∷ xs) ys = rw (list_any-append n xs ys) (or_assoc (bytes_eq n x) (is_among n xs) (is_among n ys)) where
  or_assoc : (a b c : Bool) → (a || (b || c)) ≡ ((a || b) || c)
  or_assoc true b c = refl
  or_assoc false b c = refl

pub not_among : (n : List ℕ) (xs ys : List (List ℕ)) → is_among n (xs ++ ys) ≡ false → (is_among n xs ≡ false) × (is_among n ys ≡ false)
not_among n xs ys e = or_parts (is_among n xs) (is_among n ys) (sym (list_any-append n xs ys) ∙ e)

-- the list with a block put in, whose names all pass the test
pub record IsOff (test : List ℕ → Bool) (rest : List Reading) (o : Option PlacedBlock) : Type 0 where
  pub place : HasPlace rest o
  pub off : (n : List ℕ) → test n ≡ false → is_among n (lookup_names_of o) ≡ false

pub off_old : (e : Exchange) → IsExchange e → IsOff (λ n. is_among n (touched_names e)) e.rest e.out
off_old e h = record { place = h.out; off = λ n f. (not_among n (lookup_names_of e.out) (lookup_names_of e.put) f).0 }

pub off_new : (e : Exchange) → IsExchange e → IsOff (λ n. is_among n (touched_names e)) e.rest e.put
off_new e h = record { place = h.put; off = λ n f. (not_among n (lookup_names_of e.out) (lookup_names_of e.put) f).1 }

-- ---- expansions at every depth give the expansion

some_or_none : (o : Option (List Mention)) → (o ≡ None) ⊎ ((ms : List Mention) × (o ≡ Some ms))
some_or_none None = inl refl
some_or_none (Some ms) = inr (ms, refl)

pub expansion-same : (bs cs : List Reading) (p q : ℕ) (b : Reading) → slice_get bs p ≡ Some b → slice_get cs q ≡ Some b
    → ((k : ℕ) → expand (owner_block cs) k b ≡ expand (owner_block bs) k b) → expansion cs b ≡ expansion bs b
expansion-same bs cs p q b s t h =
    elim (some_or_none (expansion bs b)) [
      | inr some ↦ bounded cs (suc (length bs)) q b some.0 t (h (suc (length bs)) ∙ some.1) ∙ sym some.1
      | inl none ↦ elim (some_or_none (expansion cs b)) [
        | inl also ↦ also ∙ sym none
        | inr some ↦ absurd (none-some some.0 (sym none ∙ bounded bs (suc (length cs)) p b some.0 s (sym (h (suc (length cs))) ∙ some.1)))
      ]
    ]

-- ---- two lists that differ by a block whose names all pass the test

module _ (test : List ℕ → Bool) (rest : List Reading) (o p : Option PlacedBlock) (at_o : IsOff test rest o) (at_p : IsOff test rest p) where
  agree : AgreeOff test (owner_block (with_block rest o)) (owner_block (with_block rest p))
  agree n f = owned-with rest o n at_o.place (at_o.off n f) ∙ sym (owned-with rest p n at_p.place (at_p.off n f))

  pub expand_in_both : (k : ℕ) (b : Reading) → ((n : List ℕ) → Uses b.items n → IsFree (owner_block (with_block rest o)) test n)
      → expand (owner_block (with_block rest p)) k b ≡ expand (owner_block (with_block rest o)) k b
  expand_in_both k b free = expand-kept test (owner_block (with_block rest o)) (owner_block (with_block rest p)) agree k b free

  pub free_in_both : (n : List ℕ) → IsFree (owner_block (with_block rest o)) test n → IsFree (owner_block (with_block rest p)) test n
  free_in_both n free = way-free test (owner_block (with_block rest o)) (owner_block (with_block rest p)) agree n free

  pub owned_in_both : (n : List ℕ) → IsFree (owner_block (with_block rest o)) test n → owner_block (with_block rest p) n ≡ owner_block (with_block rest o) n
  owned_in_both n free = sym (agree n (free [] n refl))

  pub reaches_in_both : (items : List ReadItem) (n : List ℕ) (way : List (List ℕ)) (to : List ℕ) → Uses items n
      → IsUseWay (owner_block (with_block rest o)) n way to → test to ≡ true
      → (m : List ℕ) × (test m ≡ true) × ((from : List ℕ) × (way : List (List ℕ)) × Uses items from × IsUseWay (owner_block (with_block rest p)) from way m)
  reaches_in_both items n way to u w t =
      let v = way-both test (owner_block (with_block rest o)) (owner_block (with_block rest p)) agree way n to w t in
      (v.1, v.3, (n, v.0, u, v.2))

  -- a free name leads to the block at a position in one list if it does in the other
  pub circular_in_both : (n : List ℕ) (at : ℕ) → IsFree (owner_block (with_block rest o)) test n → LeadsTo (with_block rest o) n (shifted_position o at)
      → LeadsTo (with_block rest p) n (shifted_position p at)
  circular_in_both n at free l =
      let off : test l.1 ≡ false = free l.0 l.1 l.2 in
      let here = owner-with rest o l.1 at_o.place (at_o.off l.1 off) in
      let there = owner-with rest p l.1 at_p.place (at_p.off l.1 off) in (
        l.0,
        l.1,
        way-kept test (owner_block (with_block rest o)) (owner_block (with_block rest p)) agree l.0 n l.1 free l.2,
        there ∙ ap (λ x. option_map (shifted_position p) x) (unshifted o (owner rest l.1) at (sym here ∙ l.3)),
      )
    where
      unshifted : (o : Option PlacedBlock) (x : Option ℕ) (at : ℕ) → option_map (shifted_position o) x ≡ Some (shifted_position o at) → x ≡ Some at
      unshifted o None at e = absurd (none-some (shifted_position o at) e)
      unshifted o (Some k) at e = ap (λ j. Some j) (shifted-same o k at (same_Some (shifted_position o k) (shifted_position o at) e))

  -- the block that owns a free name says the same in both lists
  pub owner_says_same : (n : List ℕ) (b : Reading) → IsFree (owner_block (with_block rest o)) test n → owner_block (with_block rest o) n ≡ Some b
      → expansion (with_block rest p) b ≡ expansion (with_block rest o) b
  owner_says_same n b free e =
      let f : owner_block (with_block rest p) n ≡ Some b = owned_in_both n free ∙ e in
      let s = stands (with_block rest o) n b e in
      let t = stands (with_block rest p) n b f in
      expansion-same (with_block rest o) (with_block rest p) s.0 t.0 b s.1 t.1
      (λ k. expand_in_both k b (λ m u way to w. free (m ∷ way) to ((b, e, u), w)))
    where
      stands : (bs : List Reading) (n : List ℕ) (b : Reading) → owner_block bs n ≡ Some b → (q : ℕ) × (slice_get bs q ≡ Some b)
      stands bs n b e =
          elim (owning bs n) [
            | nobody _ d ↦ absurd (none-some b (sym d ∙ e))
            | somebody q c own ↦ (q, own.stands ∙ (sym own.is ∙ e))
          ]
