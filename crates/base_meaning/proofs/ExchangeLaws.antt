-- The laws on edits as exchanges and on their dependents.
use Rattle.std.proofs.Common.{◌≡◌, ℕ, zero, suc, ◌<◌, ◌≤◌, ◌⊎◌, inl, inr, true, List, [], ◌∷◌, ◌++◌, length, set, Option, Some, None, slice_get, refl, sym}
use Rattle.std.proofs.Common.{◌∙◌, ap, arith}
use Rattle.std.specs.List.{insert, remove, Contains, AllByRecursion}
use Rattle.std.proofs.lemmas.Bool.{or_right}
use Rattle.std.proofs.lemmas.List.{length-map, map-set}
use Rattle.std.proofs.lemmas.List.Edits.{length-remove}
use Rattle.std.proofs.lemmas.List.Elements.{All-from_recursion, All-contains}
use Rattle.std.proofs.lemmas.Option.{same_Some, slice_get-map}
use Rattle.ti_source.specs.declared.parsing.Rule.{Rule}
use Rattle.ti_source.specs.declared.parsing.Rule.TheVariants.{Leftmost}
use Rattle.ti_source.specs.Reading.{Reading}
use Rattle.ti_source.specs.Sound.{IsRising}
use Rattle.base_meaning.specs.Owner.{is_among, owner, owner_block}
use Rattle.base_meaning.specs.Readings.{reading_by, readings_by}
use Rattle.base_meaning.specs.Edits.{Change, insertion, replacement, removal, relocation, IsInPlace, list_after}
use Rattle.base_meaning.specs.Exchange.{PlacedBlock, Exchange, IsExchange, with_block, HasPlace, new_list, block_from, exchange_by, exchange_of, LeadsOn}
use Rattle.base_meaning.specs.Exchange.{EditsAreExchanges}
use Rattle.base_meaning.specs.Dependents.{lookup_names_of, touched_names, IsPutAt, IsDependent, DependentsAreDetermined, UsersOfDependentsDepend}
use Rattle.base_meaning.specs.Dependents.{DependentsAreFound, Rebuilds, RebuildsAreDetermined, work}
use Rattle.base_meaning.specs.Reaching.{Uses, IsUseWay}
use Rattle.base_meaning.specs.UseLaws.{UsesBlock}
use Rattle.base_meaning.proofs.UseLawProofs.{has_owner}
use Rattle.base_meaning.proofs.EditedLists.{map-insert, map-remove, insert-remove}
use Rattle.base_meaning.proofs.Owning.{owner_to_owned}
use Rattle.base_meaning.proofs.LawProofs.{first_owners}
use Rattle.base_meaning.proofs.Placing.{get-with_put}
use Rattle.base_meaning.proofs.Exchanging.{list_any-append}

-- ---- what is taken out and put in

insert-set : {X : Type 0} (xs : List X) (at : ℕ) (x : X) → at < length xs → insert (remove xs at) at x ≡ set xs at x
insert-set [] at x l = absurd (omega arith)
insert-set (y ∷ ys) zero x l = refl
insert-set (y ∷ ys) (suc at) x l = ap (λ zs. y ∷ zs) (insert-set ys at x (omega arith))

item_at : {X : Type 0} (xs : List X) (at : ℕ) → at < length xs → (x : X) × (slice_get xs at ≡ Some x)
item_at [] at l = absurd (omega arith)
item_at (x ∷ xs) zero l = (x, refl)
item_at (x ∷ xs) (suc at) l = item_at xs at (omega arith)

length-readings : (rule : Rule) (texts : List (List ℕ)) → length (readings_by rule texts) ≡ length texts
length-readings rule texts = length-map texts (reading_by rule)

out_fits : (bs : List Reading) (at to : ℕ) → at < length bs → to < length bs → HasPlace (remove bs at) (block_from bs at to)
out_fits bs at to l m =
    let b = item_at bs at l in
    let n = length-remove bs at l in
    rw b.1 (let k : to ≤ length (remove bs at) = omega arith in k)

taken_back : (bs : List Reading) (at : ℕ) → at < length bs → with_block (remove bs at) (block_from bs at at) ≡ bs
taken_back bs at l = let b = item_at bs at l in rw b.1 (insert-remove bs at b.0 b.1)

moved : (rule : Rule) (texts : List (List ℕ)) (from to : ℕ) (t : List ℕ) → slice_get texts from ≡ Some t
    → with_block (remove (readings_by rule texts) from) (block_from (readings_by rule texts) from to) ≡ readings_by rule (insert (remove texts from) to t)
moved rule texts from to t e =
    let r : slice_get (readings_by rule texts) from ≡ Some (reading_by rule t) = rw (slice_get-map (reading_by rule) texts from, e) refl in
    rw (r, map-insert (reading_by rule) (remove texts from) to t, map-remove (reading_by rule) texts from) refl

pub exchanged_by : EditsAreExchanges
exchanged_by rule texts (insertion at text) h = record {
  fits = record { out = tt; put = rw (length-readings rule texts) h };
  old = refl;
  new = sym (map-insert (reading_by rule) texts at text);
}
exchanged_by rule texts (replacement at text) h =
    let l : at < length (readings_by rule texts) = rw (length-readings rule texts) h in
    let n = length-remove (readings_by rule texts) at l in
    record {
      fits = record { out = out_fits (readings_by rule texts) at at l l; put = (let k : at ≤ length (remove (readings_by rule texts) at) = omega arith in k) };
      old = taken_back (readings_by rule texts) at l;
      new = insert-set (readings_by rule texts) at (reading_by rule text) l ∙ sym (map-set (reading_by rule) texts at text);
    }
exchanged_by rule texts (removal at) h =
    let l : at < length (readings_by rule texts) = rw (length-readings rule texts) h in
    record {
      fits = record { out = out_fits (readings_by rule texts) at at l l; put = tt };
      old = taken_back (readings_by rule texts) at l;
      new = sym (map-remove (reading_by rule) texts at);
    }
exchanged_by rule texts (relocation from to) h =
    let l : from < length (readings_by rule texts) = rw (length-readings rule texts) h.0 in
    let m : to < length (readings_by rule texts) = rw (length-readings rule texts) h.1 in
    let t = item_at texts from h.0 in
    record {
      fits = record { out = out_fits (readings_by rule texts) from from l l; put = out_fits (readings_by rule texts) from to l m };
      old = taken_back (readings_by rule texts) from l;
      new = moved rule texts from to t.0 t.1 ∙ (rw t.1 refl);
    }

pub exchanged : (texts : List (List ℕ)) (change : Change) → IsInPlace texts change
    → LeadsOn Leftmost (exchange_of texts change) texts (list_after texts change)
exchanged = exchanged_by Leftmost

-- ---- dependents are determined

all_above : (n : ℕ) (ns : List ℕ) → AllByRecursion (λ m. n < m) ns → (m : ℕ) → Contains ns m → n < m
all_above n ns h m c = All-contains (λ m. n < m) ns m (All-from_recursion (λ m. n < m) ns h) c

contains_cons : (n : ℕ) (ns : List ℕ) (m : ℕ) → Contains (n ∷ ns) m → (n ≡ m) ⊎ Contains ns m
contains_cons n ns m (zero, l, e) = inl e
contains_cons n ns m (suc k, l, e) = inr (k, omega arith, e)

contains_head : (n : ℕ) (ns : List ℕ) → Contains (n ∷ ns) n
contains_head n ns = (0, omega arith, refl)

contains_tail : (n : ℕ) (ns : List ℕ) (m : ℕ) → Contains ns m → Contains (n ∷ ns) m
contains_tail n ns m c = (suc c.0, (let l : c.0 < length ns = c.1 in omega arith), c.2)

-- what the tail of one list has is in the tail of the other
tail_in : (n m : ℕ) (ns ms : List ℕ) → n ≡ m → AllByRecursion (λ k. n < k) ns → ((k : ℕ) → Contains (n ∷ ns) k → Contains (m ∷ ms) k) → (k : ℕ)
    → Contains ns k → Contains ms k
tail_in n m ns ms same above h k c =
    elim (contains_cons m ms k (h k (contains_tail n ns k c))) [
      | inl here ↦ let l = all_above n ns above k c in absurd (omega arith)
      | inr there ↦ there
    ]

-- two rising lists with the same members are equal
pub rising_one : (ns ms : List ℕ) → IsRising ns → IsRising ms → ((k : ℕ) → Contains ns k → Contains ms k) → ((k : ℕ) → Contains ms k → Contains ns k) → ns ≡ ms
rising_one [] [] r s f g = refl
rising_one [] (m ∷ ms) r s f g = let c = g m (contains_head m ms) in let l : c.0 < 0 = c.1 in absurd (omega arith)
rising_one (n ∷ ns) [] r s f g = let c = f n (contains_head n ns) in let l : c.0 < 0 = c.1 in absurd (omega arith)
rising_one (n ∷ ns) (m ∷ ms) r s f g =
    let same : n ≡ m = heads n ns m ms r s (f n (contains_head n ns)) (g m (contains_head m ms)) in
    rw (same, rising_one ns ms r.1 s.1 (tail_in n m ns ms same r.0 f) (tail_in m n ms ns (sym same) s.0 g)) refl
  where
    heads : (n : ℕ) (ns : List ℕ) (m : ℕ) (ms : List ℕ) → IsRising (n ∷ ns) → IsRising (m ∷ ms) → Contains (m ∷ ms) n → Contains (n ∷ ns) m → n ≡ m
    heads n ns m ms r s c d =
        elim (contains_cons m ms n c) [
          | inl same ↦ sym same
          | inr above ↦ elim (contains_cons n ns m d) [
            | inl same ↦ same
            | inr over ↦ let a = all_above m ms s.0 n above in let b = all_above n ns r.0 m over in absurd (omega arith)
          ]
        ]

pub one_answer : DependentsAreDetermined
one_answer = λ e ps qs h k. rising_one ps qs h.rising k.rising (λ at c. (k.dependents at).1 ((h.dependents at).0 c))
    (λ at c. (h.dependents at).1 ((k.dependents at).0 c))

-- ---- a block that uses a dependent is a dependent

owned_by : (bs : List Reading) (name : List ℕ) (at : ℕ) (b : Reading) → owner bs name ≡ Some at → slice_get bs at ≡ Some b → is_among name b.names ≡ true
owned_by bs name at b o s =
    let h = first_owners.some bs name at o in
    let same : h.block ≡ b = same_Some h.block b (sym h.stands ∙ s) in
    ap (λ x. is_among name x.names) (sym same) ∙ h.has

among_right : (n : List ℕ) (xs ys : List (List ℕ)) → is_among n ys ≡ true → is_among n (xs ++ ys) ≡ true
among_right n xs ys t = list_any-append n xs ys ∙ or_right (is_among n xs) (is_among n ys) t

-- the block put in has the touched names that it owns
put_touches : (e : Exchange) → IsExchange e → (at : ℕ) (name : List ℕ) → IsPutAt e.put at → owner (new_list e) name ≡ Some at
    → is_among name (touched_names e) ≡ true
put_touches e h at name put own = put_names (lookup_names_of e.out) e.rest e.put h.put at name put own where
  put_names : (outs : List (List ℕ)) (rest : List Reading) (o : Option PlacedBlock) → HasPlace rest o → (at : ℕ) (name : List ℕ) → IsPutAt o at
      → owner (with_block rest o) name ≡ Some at → is_among name (outs ++ lookup_names_of o) ≡ true
  put_names outs rest None l at name put own = absurd put
  put_names outs rest (Some p) l at name put own =
      among_right name outs p.block.names (owned_by (with_block rest (Some p)) name p.at p.block (own ∙ ap (λ k. Some k) (sym put)) (get-with_put rest p l))

pub users_depend : UsersOfDependentsDepend
users_depend = λ e at user b name h d own s u.
    let c = d.0 in (
      b,
      s,
      inr (elim d.2 [
        | inl put ↦ (name, put_touches e h at name put own, (name, [], u, refl))
        | inr reach ↦
            let is : owner_block (new_list e) name ≡ Some c = owner_to_owned (new_list e) name at c own d.1 in
            (reach.0, reach.1, (name, reach.2.0 ∷ reach.2.1, u, ((c, is, reach.2.2), reach.2.3)))
      ]),
    )

-- ---- all dependents are found

-- what holds of the block put in, of the users of touched names and with each block of its users
-- holds of all dependents
pub dependent_holds : (e : Exchange) (P : ℕ → Type 0) → ((at : ℕ) → IsPutAt e.put at → P at)
    → ((user : ℕ) (b : Reading) (name : List ℕ) → slice_get (new_list e) user ≡ Some b → Uses b.items name → is_among name (touched_names e) ≡ true → P user)
    → ((user at : ℕ) → UsesBlock (new_list e) user at → P at → P user) → (at : ℕ) → IsDependent e at → P at
dependent_holds e P put touching using at d =
    elim d.2 [
      | inl here ↦ put at here
      | inr reach ↦ along reach.2.1 reach.2.0 reach.0 at d.0 d.1 reach.2.2 reach.2.3 reach.1
    ]
  where
    along : (way : List (List ℕ)) (from to : List ℕ) (user : ℕ) (b : Reading) → slice_get (new_list e) user ≡ Some b → Uses b.items from
        → IsUseWay (owner_block (new_list e)) from way to → is_among to (touched_names e) ≡ true → P user
    along [] from to user b s u w t = touching user b from s u (ap (λ n. is_among n (touched_names e)) w ∙ t)
    along (x ∷ way) from to user b s u w t =
        let own = has_owner (new_list e) from w.0.0 w.0.1 in
        using user own.0 (b, s, (from, u, own.1)) (along way x to own.0 w.0.0 own.2 w.0.2 w.1 t)

pub found_dependents : DependentsAreFound
found_dependents = λ e found h at d. dependent_holds e (λ p. Contains found p) h.put h.touching h.using at d

-- ---- what an edit rebuilds is determined

pub one_rebuilt_by : RebuildsAreDetermined
one_rebuilt_by = λ rule texts change ps qs m n h k.
    let same : ps ≡ qs = one_answer (exchange_by rule texts change) ps qs h.dependents k.dependents in
    (same, h.work ∙ (ap (λ xs. work (readings_by rule (list_after texts change)) xs) same ∙ sym k.work))

pub one_rebuilt : (texts : List (List ℕ)) (change : Change) (one other : List ℕ) (steps others : ℕ) → Rebuilds texts change one steps
    → Rebuilds texts change other others → (one ≡ other) × (steps ≡ others)
one_rebuilt = one_rebuilt_by Leftmost
