-- Labels given anew, and a label between two.
use Rattle.std.proofs.Common.{◌≡◌, ℕ, ◌+◌, ◌*◌, ◌^◌, ◌<◌, ◌≤◌, inl, inr, List, length, set, Some, slice_get, sym, ◌∙◌, ap, arith}
use Rattle.std.proofs.lemmas.Bool.{cases_lt, cases_eq}
use Rattle.std.proofs.lemmas.Option.{same_Some, slice_get_within}
use Rattle.base_index.specs.inside.Labels.{HasLabel, AreLabelled, IsGap, FitsAt}
use Rattle.ti_text.specs.Lists.{AreDistinct}
use Rattle.ti_text.proofs.Lists.{get-set_same, get-set_other, item_at}

-- the first ids have labels that are multiples of the step
pub record AreSpaced (ids labels : List ℕ) (step count : ℕ) : Type 0 where
  pub spaced : (i id : ℕ) → i < count → slice_get ids i ≡ Some id → slice_get labels id ≡ Some ((i + 1) * step)

pub spaced_none : (ids labels : List ℕ) (step : ℕ) → AreSpaced ids labels step 0
spaced_none ids labels step = record { spaced = λ i id l. absurd (omega arith) }

pub spaced_more : (ids labels : List ℕ) (step i id : ℕ) → AreSpaced ids labels step i → slice_get ids i ≡ Some id → id < length labels → AreDistinct ids
    → AreSpaced ids (set labels id ((i + 1) * step)) step (i + 1)
spaced_more ids labels step i id h here within distinct =
    let x = item_at labels id within in
    let new = get-set_same labels id x.0 ((i + 1) * step) x.1 in
    record {
      spaced = λ j other l e. elim (cases_eq other id) [
        | inl same ↦
            let place : j ≡ i = distinct j i id (rw same at e) here in
            rw (same, place) new
        | inr apart ↦ elim (cases_eq j i) [
          | inl place ↦ absurd (apart (same_Some other id (sym e ∙ rw place here)))
          | inr before ↦ get-set_other labels id other ((i + 1) * step) apart ∙ h.spaced j other (omega arith) e
        ]
      ];
    }

label_spaced : (ids labels : List ℕ) (step : ℕ) → AreSpaced ids labels step (length ids) → (i x : ℕ) → HasLabel ids labels i x → x ≡ (i + 1) * step
label_spaced ids labels step h i x (id, here, e) =
    same_Some x ((i + 1) * step) (sym e ∙ h.spaced i id (slice_get_within ids i id here) here)

pub spaced_labelled : (ids labels : List ℕ) → AreSpaced ids labels 4294967296 (length ids) → length ids < 2147483648 → AreLabelled ids labels
spaced_labelled ids labels h few = record {
  rises = λ i j x y l e f.
      let a = label_spaced ids labels 4294967296 h i x e in
      let b = label_spaced ids labels 4294967296 h j y f in
      omega arith;
  above = λ i x e. let a = label_spaced ids labels 4294967296 h i x e in omega arith;
  below = λ i x e.
      let a = label_spaced ids labels 4294967296 h i x e in
      let l = slice_get_within ids i e.0 e.1 in
      omega arith;
}

pub spaced_gap : (ids labels : List ℕ) (position low high : ℕ) → AreSpaced ids labels 4294967296 (length ids) → length ids < 2147483648
    → position ≤ length ids → IsGap ids labels position low high → low + 1 < high
spaced_gap ids labels position low high h few within gap =
    elim gap.low_label [
      | inl first ↦ elim gap.high_label [
        | inl last ↦ (let a = first.1 in let b = last.1 in omega arith)
        | inr next ↦ (let a = first.1 in let b = label_spaced ids labels 4294967296 h position high next in omega arith)
      ]
      | inr before ↦
          let a = label_spaced ids labels 4294967296 h before.0 low before.2 in
          let p = before.1 in
          elim gap.high_label [
            | inl last ↦ (let b = last.1 in omega arith)
            | inr next ↦ (let b = label_spaced ids labels 4294967296 h position high next in omega arith)
          ]
    ]

same_label : (ids labels : List ℕ) (i x y : ℕ) → HasLabel ids labels i x → HasLabel ids labels i y → x ≡ y
same_label ids labels i x y (a, e, f) (b, p, q) =
    let same : a ≡ b = same_Some a b (sym e ∙ p) in
    same_Some x y (sym f ∙ (ap (slice_get labels) same ∙ q))

-- what lies between the neighbours' labels fits
pub gap_fits : (ids labels : List ℕ) (position low high label : ℕ) → AreLabelled ids labels → IsGap ids labels position low high → position ≤ length ids
    → low < label → label < high → FitsAt ids labels position label
gap_fits ids labels position low high label h gap within above below = record {
  behind = λ i x l e. elim gap.low_label [
    | inl first ↦ (let a = first.0 in absurd (omega arith))
    | inr before ↦
        let p = before.1 in
        elim (cases_lt i before.0) [
          | inl less ↦ (let a = h.rises i before.0 x low less e before.2 in omega arith)
          | inr no_less ↦
              let same : i ≡ before.0 = omega arith in
              let one = same_label ids labels before.0 x low (rw same at e) before.2 in omega arith
        ]
  ];
  before = λ i x l e. elim gap.high_label [
    | inl last ↦ (let a = last.0 in let b = slice_get_within ids i e.0 e.1 in absurd (omega arith))
    | inr next ↦ elim (cases_lt position i) [
      | inl less ↦ (let a = h.rises position i high x less next e in omega arith)
      | inr no_less ↦
          let same : i ≡ position = omega arith in
          let one = same_label ids labels position x high (rw same at e) next in omega arith
    ]
  ];
  above = omega arith;
  below = elim gap.high_label [
    | inl last ↦ (let a = last.1 in omega arith)
    | inr next ↦ (let a = h.below position high next in omega arith)
  ];
}

pub gap_below : (ids labels : List ℕ) (position low high : ℕ) → AreLabelled ids labels → IsGap ids labels position low high → low < 2 ^ 63
gap_below ids labels position low high h gap = elim gap.low_label [
  | inl first ↦ (let a = first.1 in omega arith)
  | inr before ↦ h.below before.0 low before.2
]
