-- An id's place by its label, and labels of a list that an id is put into or taken out of.
use Rattle.std.proofs.Common.{◌≡◌, ℕ, ◌<◌, inl, inr, List, length, get_or, Some, slice_get, sym, ◌∙◌, ap, arith}
use Rattle.std.proofs.lemmas.Bool.{cases_lt, cases_eq}
use Rattle.std.proofs.lemmas.Option.{same_Some, slice_get-get_or}
use Rattle.base_index.specs.inside.Labels.{HasLabel, AreLabelled}
use Rattle.ti_text.specs.Lists.{AreBelow}

-- the label of the id at a place of the list
label_read : (ids labels : List ℕ) (i id : ℕ) → AreBelow ids (length labels) → slice_get ids i ≡ Some id → HasLabel ids labels i (get_or labels id 0)
label_read ids labels i id known e = (id, e, slice_get-get_or labels id 0 (known i id e))

-- labels say which of two is first
pub labels_decide_before : (ids labels : List ℕ) (i j one other : ℕ) → AreLabelled ids labels → AreBelow ids (length labels) → slice_get ids i ≡ Some one
    → slice_get ids j ≡ Some other → (get_or labels one 0 < get_or labels other 0 → i < j) × (i < j → get_or labels one 0 < get_or labels other 0)
labels_decide_before ids labels i j one other labelled known e f =
    let a = label_read ids labels i one known e in
    let b = label_read ids labels j other known f in (
      (λ less. elim (cases_lt i j) [
        | inl first ↦ first
        | inr later ↦ elim (cases_eq j i) [
          | inl same ↦
              let two : get_or labels one 0 ≡ get_or labels other 0 = ap (λ x. get_or labels x 0) (same_Some one other (sym e ∙ (rw same at f))) in
              absurd (omega arith)
          | inr apart ↦ (let r = labelled.rises j i (get_or labels other 0) (get_or labels one 0) (omega arith) b a in absurd (omega arith))
        ]
      ]),
      λ first. labelled.rises i j (get_or labels one 0) (get_or labels other 0) first a b,
    )
