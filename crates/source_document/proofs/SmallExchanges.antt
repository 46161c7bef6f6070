-- How few edits a small change takes.
use Rattle.std.proofs.Common.{◌≡◌, inl, inr, ℕ, ◌+◌, ◌-◌, ◌<◌, ◌≤◌, List, [], get_or, insert, length, max, remove, slice_get, slice_set, Some, refl, sym}
use Rattle.std.proofs.Common.{ap, ◌∙◌, arith}
use Rattle.std.proofs.lemmas.Bool.{cases_eq, cases_lt}
use Rattle.std.proofs.lemmas.List.{length-set}
use Rattle.std.proofs.lemmas.List.Edits.{get_or-insert_above, get_or-insert_below, get_or-remove_above, get_or-remove_below, length-insert, length-remove}
use Rattle.std.proofs.lemmas.Option.{slice_get-get_or}
use Rattle.ti_text.proofs.Lists.{get-set_other}
use Rattle.source_document.specs.Exchanges.{AtBack, AtFront, OneChangedIsOneEdit, OneInsertedIsOneEdit, OneRemovedIsOneEdit, SameBlocksTakeNoEdit}

-- two lists have the same item at two positions
get_same : (xs ys : List (List ℕ)) (i j : ℕ) → i < length xs → j < length ys → get_or xs i [] ≡ get_or ys j [] → slice_get xs i ≡ slice_get ys j
get_same xs ys i j here there e = slice_get-get_or xs i [] here ∙ ap (λ (x : List ℕ). Some x) e ∙ sym (slice_get-get_or ys j [] there)

-- ---- the same blocks

same_differ : (blocks : List (List ℕ)) (front back : ℕ) → AtFront blocks blocks front → max (length blocks) (length blocks) - front - back ≡ 0
same_differ blocks front back at_front =
    elim (cases_lt front (length blocks)) [
      | inl less ↦ absurd (at_front.most less less refl)
      | inr all ↦ omega arith
    ]

pub same_take_none : SameBlocksTakeNoEdit
same_take_none blocks edits x =
    let none = same_differ blocks x.front x.back x.at_front in
    let few = x.few (omega (arith, none)) in
    few.0 ∙ none

-- ---- one block is changed

changed_front : (old : List (List ℕ)) (at : ℕ) (text : List ℕ) (front : ℕ) → AtFront old (slice_set old at text) front → front < length old → front ≡ at
changed_front old at text front at_front less =
    elim (cases_eq front at) [
      | inl same ↦ same
      | inr apart ↦ absurd (at_front.most less (omega (arith, less, length-set old at text)) (sym (get-set_other old at front text apart)))
    ]

changed_back : (old : List (List ℕ)) (at : ℕ) (text : List ℕ) (front back : ℕ) → AtBack old (slice_set old at text) front back → front + back < length old
    → length old - 1 - back ≡ at
changed_back old at text front back at_back less =
    let new = slice_set old at text in
    let len : length new ≡ length old = length-set old at text in
    elim (cases_eq (length old - 1 - back) at) [
      | inl same ↦ same
      | inr apart ↦ absurd (at_back.most less (omega (arith, less, len))
          (sym (get-set_other old at (length old - 1 - back) text apart) ∙ ap (λ (n : ℕ). slice_get new (n - 1 - back)) (sym len)))
    ]

changed_differ : (old : List (List ℕ)) (at : ℕ) (text : List ℕ) (front back : ℕ) → AtFront old (slice_set old at text) front
    → AtBack old (slice_set old at text) front back
    → max (length old) (length (slice_set old at text)) - front - back ≤ 1
changed_differ old at text front back at_front at_back =
    let len : length (slice_set old at text) ≡ length old = length-set old at text in
    elim (cases_lt (front + back) (length old)) [
      | inl less ↦ (let first = changed_front old at text front at_front (omega (arith, less)) in
          let last = changed_back old at text front back at_back less in
          omega (arith, first, last, less, len))
      | inr all ↦ omega (arith, all, len)
    ]

pub one_changed : OneChangedIsOneEdit
one_changed old at text edits x =
    let one = changed_differ old at text x.front x.back x.at_front x.at_back in
    let few = x.few (omega (arith, one)) in
    (omega (arith, few.0, one), few.1)

-- ---- one block is put in

inserted_front : (old : List (List ℕ)) (at : ℕ) (text : List ℕ) (front : ℕ) → at ≤ length old → AtFront old (insert old at text) front → front < length old
    → at ≤ front
inserted_front old at text front place at_front less =
    let new = insert old at text in
    let more : front < length new = omega (arith, less, length-insert old at text place) in
    elim (cases_lt front at) [
      | inl before ↦ absurd (at_front.most less more (get_same old new front front less more (sym (get_or-insert_below old at text [] front before place))))
      | inr after ↦ after
    ]

inserted_back : (old : List (List ℕ)) (at : ℕ) (text : List ℕ) (front back : ℕ) → at ≤ length old → at ≤ front → AtBack old (insert old at text) front back
    → front + back < length old → ⊥
inserted_back old at text front back place after at_back less =
    let new = insert old at text in
    let len : length new ≡ length old + 1 = length-insert old at text place in
    let j = length old - 1 - back in
    let here : j < length old = omega (arith, less) in
    let above : at ≤ j = omega (arith, after, less) in
    let next : j + 1 ≡ length new - 1 - back = omega (arith, len, less) in
    at_back.most less (omega (arith, less, len))
    (get_same old new j (j + 1) here (omega (arith, here, len)) (sym (get_or-insert_above old at text [] j above place)) ∙ ap (slice_get new) next)

inserted_differ : (old : List (List ℕ)) (at : ℕ) (text : List ℕ) (front back : ℕ) → at ≤ length old → AtFront old (insert old at text) front
    → AtBack old (insert old at text) front back
    → max (length old) (length (insert old at text)) - front - back ≡ 1
inserted_differ old at text front back place at_front at_back =
    let len : length (insert old at text) ≡ length old + 1 = length-insert old at text place in
    let held = at_back.held in
    elim (cases_lt (front + back) (length old)) [
      | inl less ↦ absurd (inserted_back old at text front back place (inserted_front old at text front place at_front (omega (arith, less))) at_back less)
      | inr all ↦ omega (arith, all, held, len)
    ]

pub one_inserted : OneInsertedIsOneEdit
one_inserted old at text edits place x =
    let one = inserted_differ old at text x.front x.back place x.at_front x.at_back in
    let few = x.few (omega (arith, one)) in
    (few.0 ∙ one, few.1)

-- ---- one block is taken out

removed_front : (old : List (List ℕ)) (at front : ℕ) → at < length old → AtFront old (remove old at) front → front < length (remove old at) → at ≤ front
removed_front old at front place at_front less =
    let new = remove old at in
    let more : front < length old = omega (arith, less, length-remove old at place) in
    elim (cases_lt front at) [
      | inl before ↦ absurd (at_front.most more less (get_same old new front front more less (sym (get_or-remove_below old at [] front before place))))
      | inr after ↦ after
    ]

removed_back : (old : List (List ℕ)) (at front back : ℕ) → at < length old → at ≤ front → AtBack old (remove old at) front back
    → front + back < length (remove old at) → ⊥
removed_back old at front back place after at_back less =
    let new = remove old at in
    let len : length new + 1 ≡ length old = length-remove old at place in
    let j = length new - 1 - back in
    let there : j < length new = omega (arith, less) in
    let above : at ≤ j = omega (arith, after, less) in
    let next : length old - 1 - back ≡ j + 1 = omega (arith, len, less) in
    at_back.most (omega (arith, less, len)) less
    (ap (slice_get old) next ∙ get_same old new (j + 1) j (omega (arith, there, len)) there (sym (get_or-remove_above old at [] j above place)))

removed_differ : (old : List (List ℕ)) (at front back : ℕ) → at < length old → AtFront old (remove old at) front → AtBack old (remove old at) front back
    → max (length old) (length (remove old at)) - front - back ≡ 1
removed_differ old at front back place at_front at_back =
    let len : length (remove old at) + 1 ≡ length old = length-remove old at place in
    let there = at_back.there in
    elim (cases_lt (front + back) (length (remove old at))) [
      | inl less ↦ absurd (removed_back old at front back place (removed_front old at front place at_front (omega (arith, less))) at_back less)
      | inr all ↦ omega (arith, all, there, len)
    ]

pub one_removed : OneRemovedIsOneEdit
one_removed old at edits place x =
    let one = removed_differ old at x.front x.back place x.at_front x.at_back in
    let few = x.few (omega (arith, one)) in
    (few.0 ∙ one, few.1)
