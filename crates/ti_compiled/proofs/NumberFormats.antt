-- The format that the numbers of an image need, found by their wide values.
use Rattle.std.proofs.Common.{◌≡◌, ◌≢◌, ℕ, ◌<◌, ◌≤◌, ◌⊎◌, true, false, cond, List, length, get_or, Option, Some, None, refl, sym, ap, ◌∙◌, subst, arith}
use Rattle.std.proofs.Common.{inl, inr}
use Rattle.std.proofs.lemmas.Bool.{lt-ltb, le-ltb}
use Rattle.ti_caps.specs.Tables.{capability}
use Rattle.ti_caps.specs.declared.capability.Kind.TheVariants.{Number}
use Rattle.ti_layout.specs.declared.layout.Format.TheVariants.{Legacy, Extended}
use Rattle.ti_layout.specs.Image.{below, format_of, is_wide, number_value, of_kind}
use Rattle.ti_layout.specs.Values.{Content, content_true, content_number, content_text, content_cancelled, Contents, AgreesIfSome}
use Rattle.ti_layout.proofs.Below.{length-below, get_or-below, some_below-true, some_below-false}
use Rattle.ti_compiled.specs.inside.Changes.{wide_value, HasNumbers}

narrow : (j : ℕ) (o : Option Content) → AgreesIfSome (capability Number j) o → (number_value 4294967295 o ≤ 32767)
    ⊎ (number_value 4294967295 o ≡ 4294967295) → is_wide o ≡ false
narrow j None a v = refl
narrow j (Some content_true) a v = refl
narrow j (Some (content_number n)) a v = elim v [
  | inl small ↦ le-ltb 32767 n small
  | inr void ↦ let fits = a.1 in absurd (omega arith)
]
narrow j (Some (content_text t)) a v = refl
narrow j (Some content_cancelled) a v = refl

wide : (o : Option Content) → 32767 < number_value 4294967295 o → number_value 4294967295 o ≢ 4294967295 → is_wide o ≡ true
wide None large there = absurd (there refl)
wide (Some content_true) large there = absurd (there refl)
wide (Some (content_number n)) large there = lt-ltb 32767 n large
wide (Some (content_text t)) large there = absurd (there refl)
wide (Some content_cancelled) large there = absurd (there refl)

module _ (values : List ℕ) (c : Contents) (all : values ≡ below (wide_value c) 39) where
  value_at : (j : ℕ) → j < 39 → get_or values j 0 ≡ wide_value c j
  value_at j lt = ap (λ t. get_or t j 0) all ∙ get_or-below (wide_value c) 39 j 0 lt

  pub length_values : length values ≡ 39
  length_values = ap (λ (t : List ℕ). length t) all ∙ length-below (wide_value c) 39

  pub format_extended : (i : ℕ) → i < length values → 32767 < get_or values i 0 → get_or values i 0 ≢ 4294967295 → Extended ≡ format_of c
  format_extended i lt large there =
      let l = length_values in
      let under : i < 39 = omega arith in
      let v = value_at i under in
      let passes = wide (of_kind c Number i) (subst (λ x. 32767 < x) v large) (λ e. there (v ∙ e)) in
      sym (ap (λ b. cond b Extended Legacy) (some_below-true (λ j. is_wide (of_kind c Number j)) 39 i under passes))

  pub format_legacy : (end : ℕ) → length values ≤ end → HasNumbers c → ((j : ℕ) → j < end → (get_or values j 0 ≤ 32767) ⊎ (get_or values j 0 ≡ 4294967295))
      → Legacy ≡ format_of c
  format_legacy end le agree each =
      let l = length_values in
      sym (ap (λ b. cond b Extended Legacy) (some_below-false (λ j. is_wide (of_kind c Number j)) 39 (λ j lt.
      narrow j (of_kind c Number j) (agree j lt) (subst (λ x. (x ≤ 32767) ⊎ (x ≡ 4294967295)) (value_at j lt) (each j (omega arith))))))
