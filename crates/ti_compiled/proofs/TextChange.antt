-- An image in which a string changes, byte for byte.
use Rattle.std.proofs.Common.{◌≡◌, ◌≢◌, ℕ, zero, suc, ◌+◌, ◌-◌, ◌<◌, ◌≤◌, List, [], ◌++◌, length, Option, Some, None, refl, sym, ap, ◌∙◌, append_assoc}
use Rattle.std.proofs.Common.{append-nil, arith}
use Rattle.std.proofs.lemmas.List.{length-append}
use Rattle.ti_caps.specs.Tables.{capability}
use Rattle.ti_caps.specs.declared.capability.Kind.TheVariants.{Text}
use Rattle.ti_layout.specs.Image.{of_kind, text_piece, texts_below}
use Rattle.ti_layout.specs.Values.{Contents}
use Rattle.ti_layout.proofs.Texts.{texts-more, texts-same}
use Rattle.ti_compiled.specs.inside.Changes.{text_content}
use Rattle.ti_compiled.specs.inside.Bytes.{ended_text}

pub piece_of : (t : Option (List ℕ)) → text_piece (text_content t) ≡ ended_text t
piece_of None = refl
piece_of (Some t) = refl

-- the string tables of contents that differ in one string are equal before it and after it
module _ (c g : Contents) (index : ℕ) (others : (j : ℕ) → j ≢ index → g (capability Text j) ≡ c (capability Text j)) where
  pub texts_before : (n : ℕ) → n ≤ index → texts_below g n ≡ texts_below c n
  texts_before n le = texts-same g c n (λ i lt. ap text_piece (others i (λ same. omega arith)))

  abbrev Ends : ℕ → Type 0
  Ends n = (tail : List ℕ) × (texts_below c n ≡ texts_below c index ++ (text_piece (of_kind c Text index) ++ tail))
      × (texts_below g n ≡ texts_below c index ++ (text_piece (of_kind g Text index) ++ tail))

  pub texts_about : (k : ℕ) → Ends (index + 1 + k)
  texts_about zero =
      let e : index + 1 + 0 ≡ index + 1 = omega arith in (
        [],
        ap (texts_below c) e ∙ texts-more c index ∙ ap (λ t. texts_below c index ++ t) (sym (append-nil (text_piece (of_kind c Text index)))),
        ap (texts_below g) e ∙ texts-more g index ∙ ap (λ t. t ++ text_piece (of_kind g Text index)) (texts_before index (omega arith))
            ∙ ap (λ t. texts_below c index ++ t) (sym (append-nil (text_piece (of_kind g Text index)))),
      )
  texts_about (suc k) =
      let e : index + 1 + suc k ≡ (index + 1 + k) + 1 = omega arith in
      let a = texts_about k in
      let n = index + 1 + k in
      let same : text_piece (of_kind g Text n) ≡ text_piece (of_kind c Text n) = ap text_piece (others n (λ same. omega arith)) in
      let last = text_piece (of_kind c Text n) in (
        a.0 ++ last,
        ap (texts_below c) e ∙ texts-more c n ∙ ap (λ t. t ++ last) a.1 ∙ append_assoc (texts_below c index) (text_piece (of_kind c Text index) ++ a.0) last
            ∙ ap (λ t. texts_below c index ++ t) (append_assoc (text_piece (of_kind c Text index)) a.0 last),
        ap (texts_below g) e ∙ texts-more g n ∙ ap (λ t. texts_below g n ++ t) same ∙ ap (λ t. t ++ last) a.2
            ∙ append_assoc (texts_below c index) (text_piece (of_kind g Text index) ++ a.0) last
            ∙ ap (λ t. texts_below c index ++ t) (append_assoc (text_piece (of_kind g Text index)) a.0 last),
      )

  -- what the tables have besides the string
  pub lengths_about : (n : ℕ) → index < n → length (texts_below g n) + length (text_piece (of_kind c Text index))
      ≡ length (texts_below c n) + length (text_piece (of_kind g Text index))
  lengths_about n lt =
      let e : index + 1 + (n - (index + 1)) ≡ n = omega arith in
      let a = texts_about (n - (index + 1)) in
      let s = texts_below c index in
      let x = text_piece (of_kind c Text index) in
      let y = text_piece (of_kind g Text index) in
      let lc : length (texts_below c n) ≡ length (s ++ (x ++ a.0)) = ap (λ k. length (texts_below c k)) (sym e) ∙ ap (λ (t : List ℕ). length t) a.1 in
      let lg : length (texts_below g n) ≡ length (s ++ (y ++ a.0)) = ap (λ k. length (texts_below g k)) (sym e) ∙ ap (λ (t : List ℕ). length t) a.2 in
      let l1 = length-append s (x ++ a.0) in
      let l2 = length-append s (y ++ a.0) in
      let l3 = length-append x a.0 in
      let l4 = length-append y a.0 in
      omega arith
