-- Whether a way leads from a name to a name of a block: a search with a depth of one for each block
-- of the list finds every way.
use Rattle.std.proofs.Common.{◌≡◌, ℕ, zero, suc, ◌<◌, ◌⊎◌, inl, inr, Bool, true, false, ◌||◌, List, [], ◌∷◌, length, Option, Some, None, slice_get, nat_eq}
use Rattle.std.proofs.Common.{refl, sym, ◌∙◌, ap, subst}
use Rattle.std.specs.Option.{option_map_or}
use Rattle.std.specs.Str.{bytes_eq}
use Rattle.std.specs.Cmp.Lexicographic.{bytes_decides}
use Rattle.std.proofs.lemmas.Bool.{false≢true, or_cases, eqb-true, eq-eqb}
use Rattle.std.proofs.lemmas.Option.{slice_get_within}
use Rattle.ti_source.specs.Reading.{Reading, ReadItem}
use Rattle.base_meaning.specs.Owner.{owner, owner_block, is_owner}
use Rattle.base_meaning.specs.Reaching.{used_name, Uses, IsUseWay, LeadsTo, use_passes, any_use, block_passes, leads, leads_to}
use Rattle.base_meaning.proofs.Owning.{nobody, somebody, owning}
use Rattle.base_meaning.proofs.Settling.{IsGrowing, settles}

or_left : (x y : Bool) → x ≡ true → (x || y) ≡ true
or_left true y e = refl
or_left false y e = absurd (false≢true e)

or_right : (x y : Bool) → y ≡ true → (x || y) ≡ true
or_right true y e = refl
or_right false y e = e

-- ---- tests of used names

use_passes-uses : (f : List ℕ → Bool) (o : Option (List ℕ)) → use_passes f o ≡ true → (n : List ℕ) × (o ≡ Some n) × (f n ≡ true)
use_passes-uses f None e = absurd (false≢true e)
use_passes-uses f (Some n) e = (n, refl, e)

any_use-uses : (f : List ℕ → Bool) (is : List ReadItem) → any_use f is ≡ true → (n : List ℕ) × Uses is n × (f n ≡ true)
any_use-uses f [] e = absurd (false≢true e)
any_use-uses f (i ∷ is) e =
    elim (or_cases (use_passes f (used_name i.said)) (any_use f is) e) [
      | inl here ↦ let w = use_passes-uses f (used_name i.said) here in (w.0, inl w.1, w.2)
      | inr later ↦ let w = any_use-uses f is later in (w.0, inr w.1, w.2)
    ]

any_use-from : (f : List ℕ → Bool) (is : List ReadItem) (n : List ℕ) → Uses is n → f n ≡ true → any_use f is ≡ true
any_use-from f [] n u e = absurd u
any_use-from f (i ∷ is) n (inl here) e = or_left (use_passes f (used_name i.said)) (any_use f is) (rw here e)
any_use-from f (i ∷ is) n (inr later) e = or_right (use_passes f (used_name i.said)) (any_use f is) (any_use-from f is n later e)

use_passes-same : (f g : List ℕ → Bool) → ((n : List ℕ) → f n ≡ g n) → (o : Option (List ℕ)) → use_passes f o ≡ use_passes g o
use_passes-same f g h None = refl
use_passes-same f g h (Some n) = h n

any_use-same : (f g : List ℕ → Bool) → ((n : List ℕ) → f n ≡ g n) → (is : List ReadItem) → any_use f is ≡ any_use g is
any_use-same f g h [] = refl
any_use-same f g h (i ∷ is) = rw (use_passes-same f g h (used_name i.said), any_use-same f g h is) refl

-- a name is found exactly if an item uses it
pub any_use-used : (name : List ℕ) (is : List ReadItem) → any_use (bytes_eq name) is ≡ true → Uses is name
any_use-used name is e = let w = any_use-uses (bytes_eq name) is e in subst (Uses is) (sym ((bytes_decides name w.0).0 w.2)) w.1

pub used-any_use : (name : List ℕ) (is : List ReadItem) → Uses is name → any_use (bytes_eq name) is ≡ true
used-any_use name is u = any_use-from (bytes_eq name) is name u ((bytes_decides name name).1 refl)

any_use-grows : (f g : List ℕ → Bool) → ((n : List ℕ) → f n ≡ true → g n ≡ true) → (is : List ReadItem) → any_use f is ≡ true → any_use g is ≡ true
any_use-grows f g h is e = let w = any_use-uses f is e in any_use-from g is w.0 w.1 (h w.0 w.2)

-- ---- one step

abbrev after_step : List Reading → ℕ → ℕ → Reading → Bool
after_step bs at k b = any_use (λ n. leads bs k n at) b.items

block_passes-grows : (f g : Reading → Bool) → ((b : Reading) → f b ≡ true → g b ≡ true) → (o : Option Reading) → block_passes f o ≡ true
    → block_passes g o ≡ true
block_passes-grows f g h None e = e
block_passes-grows f g h (Some b) e = h b e

leads-suc : (bs : List Reading) (at k : ℕ) (n : List ℕ) → leads bs k n at ≡ true → leads bs (suc k) n at ≡ true
leads-suc bs at zero n e = absurd (false≢true e)
leads-suc bs at (suc k) n e =
    elim (or_cases (is_owner bs n at) (block_passes (after_step bs at k) (owner_block bs n)) e) [
      | inl here ↦ or_left (is_owner bs n at) (block_passes (after_step bs at (suc k)) (owner_block bs n)) here
      | inr later ↦ or_right (is_owner bs n at) (block_passes (after_step bs at (suc k)) (owner_block bs n))
          (block_passes-grows (after_step bs at k) (after_step bs at (suc k))
          (λ b. any_use-grows (λ m. leads bs k m at) (λ m. leads bs (suc k) m at) (leads-suc bs at k) b.items) (owner_block bs n) later)
    ]

-- whether the block at a place leads on within the given number of steps
steps_at : List Reading → ℕ → ℕ → ℕ → Bool
steps_at bs at k p = option_map_or (after_step bs at k) (slice_get bs p) false

steps_at-is : (bs : List Reading) (at k p : ℕ) (b : Reading) → slice_get bs p ≡ Some b → steps_at bs at k p ≡ after_step bs at k b
unfolding steps_at
steps_at-is bs at k p b e = rw e refl

steps_at-none : (bs : List Reading) (at k p : ℕ) → slice_get bs p ≡ None → steps_at bs at k p ≡ false
unfolding steps_at
steps_at-none bs at k p e = rw e refl

each_place : (bs : List Reading) (p : ℕ) → ((b : Reading) × (slice_get bs p ≡ Some b)) ⊎ (slice_get bs p ≡ None)
each_place bs p = elim (slice_get bs p) as (λ v. slice_get bs p ≡ v → ((b : Reading) × (slice_get bs p ≡ Some b))
    ⊎ (slice_get bs p ≡ None)) [ Some b ↦ λ e. inl (b, e) | None ↦ λ e. inr e ] refl

steps_at-grows : (bs : List Reading) (at k p : ℕ) → p < length bs → steps_at bs at k p ≡ true → steps_at bs at (suc k) p ≡ true
steps_at-grows bs at k p l h =
    elim (each_place bs p) [
      | inr none ↦ absurd (false≢true (sym (steps_at-none bs at k p none) ∙ h))
      | inl found ↦
          let b = found.0 in
          steps_at-is bs at (suc k) p b found.1
          ∙ any_use-grows (λ m. leads bs k m at) (λ m. leads bs (suc k) m at) (leads-suc bs at k) b.items (sym (steps_at-is bs at k p b found.1) ∙ h)
    ]

leads-same : (bs : List Reading) (at j k : ℕ) → ((p : ℕ) → p < length bs → steps_at bs at j p ≡ steps_at bs at k p) → (n : List ℕ)
    → leads bs (suc j) n at ≡ leads bs (suc k) n at
leads-same bs at j k h n =
    elim (owning bs n) [
      | nobody _ d ↦ rw d refl
      | somebody p b o ↦
          let e = sym (steps_at-is bs at j p b o.stands) ∙ (h p (slice_get_within bs p b o.stands) ∙ steps_at-is bs at k p b o.stands) in
          rw (o.is, e) refl
    ]

steps_at-stays : (bs : List Reading) (at k : ℕ) → ((p : ℕ) → p < length bs → steps_at bs at (suc k) p ≡ steps_at bs at k p) → (p : ℕ) → p < length bs
    → steps_at bs at (suc (suc k)) p ≡ steps_at bs at (suc k) p
steps_at-stays bs at k h p l =
    elim (each_place bs p) [
      | inr none ↦ steps_at-none bs at (suc (suc k)) p none ∙ sym (steps_at-none bs at (suc k) p none)
      | inl found ↦
          let b = found.0 in
          steps_at-is bs at (suc (suc k)) p b found.1
          ∙ (any_use-same (λ m. leads bs (suc (suc k)) m at) (λ m. leads bs (suc k) m at) (leads-same bs at (suc k) k h) b.items
          ∙ sym (steps_at-is bs at (suc k) p b found.1))
    ]

growing : (bs : List Reading) (at : ℕ) → IsGrowing (steps_at bs at) (length bs)
growing bs at = record { grows = steps_at-grows bs at; stays = steps_at-stays bs at }

-- as many steps as there are blocks suffice
leads-settles : (bs : List Reading) (at k : ℕ) (n : List ℕ) → leads bs (suc k) n at ≡ true → leads_to bs n at ≡ true
leads-settles bs at k n e =
    elim (or_cases (is_owner bs n at) (block_passes (after_step bs at k) (owner_block bs n)) e) [
      | inl here ↦ or_left (is_owner bs n at) (block_passes (after_step bs at (length bs)) (owner_block bs n)) here
      | inr later ↦ or_right (is_owner bs n at) (block_passes (after_step bs at (length bs)) (owner_block bs n))
          (elim (owning bs n) [
            | nobody _ d ↦ absurd (false≢true (rw d at later))
            | somebody p b o ↦
                let here : steps_at bs at k p ≡ true = steps_at-is bs at k p b o.stands ∙ (rw o.is at later) in
                let there = settles (steps_at bs at) (length bs) (growing bs at) k p (slice_get_within bs p b o.stands) here in
                rw o.is (sym (steps_at-is bs at (length bs) p b o.stands) ∙ there)
          ])
    ]

-- ---- ways

pub is_owner-from : (bs : List Reading) (n : List ℕ) (at : ℕ) → owner bs n ≡ Some at → is_owner bs n at ≡ true
is_owner-from bs n at e = rw e (eq-eqb at at refl)

pub is_owner-is : (bs : List Reading) (n : List ℕ) (at : ℕ) → is_owner bs n at ≡ true → owner bs n ≡ Some at
is_owner-is bs n at e =
    elim (owner bs n) as (λ v. option_map_or (λ place. nat_eq place at) v false ≡ true → v ≡ Some at) [
      | None ↦ λ h. absurd (false≢true h)
      | Some p ↦ λ h. ap (λ x. Some x) (eqb-true p at h)
    ] e

way_leads : (bs : List Reading) (at : ℕ) (way : List (List ℕ)) (from to : List ℕ) → IsUseWay (owner_block bs) from way to → owner bs to ≡ Some at
    → leads bs (suc (length way)) from at ≡ true
way_leads bs at [] from to w e =
    or_left (is_owner bs from at) (block_passes (after_step bs at 0) (owner_block bs from)) (is_owner-from bs from at (rw w e))
way_leads bs at (next ∷ way) from to w e =
    let step = w.0 in
    or_right (is_owner bs from at) (block_passes (after_step bs at (suc (length way))) (owner_block bs from))
    (rw step.1 (any_use-from (λ m. leads bs (suc (length way)) m at) step.0.items next step.2 (way_leads bs at way next to w.1 e)))

leads_way : (bs : List Reading) (at k : ℕ) (from : List ℕ) → leads bs k from at ≡ true → LeadsTo bs from at
leads_way bs at zero from e = absurd (false≢true e)
leads_way bs at (suc k) from e =
    elim (or_cases (is_owner bs from at) (block_passes (after_step bs at k) (owner_block bs from)) e) [
      | inl here ↦ ([], from, refl, is_owner-is bs from at here)
      | inr later ↦ elim (owning bs from) [
        | nobody _ d ↦ absurd (false≢true (rw d at later))
        | somebody p b o ↦
            let passes : after_step bs at k b ≡ true = rw o.is at later in
            let w = any_use-uses (λ m. leads bs k m at) b.items passes in
            let rest = leads_way bs at k w.0 w.2 in
            (w.0 ∷ rest.0, rest.1, ((b, o.is, w.1), rest.2), rest.3)
      ]
    ]

-- the search says whether there is a way
pub leads_to-LeadsTo : (bs : List Reading) (from : List ℕ) (at : ℕ) → leads_to bs from at ≡ true → LeadsTo bs from at
leads_to-LeadsTo bs from at = leads_way bs at (suc (length bs)) from

pub LeadsTo-leads_to : (bs : List Reading) (from : List ℕ) (at : ℕ) → LeadsTo bs from at → leads_to bs from at ≡ true
LeadsTo-leads_to bs from at w = leads-settles bs at (length w.0) from (way_leads bs at w.0 from w.1 w.2 w.3)
