-- The first words, and the later ones.
use Rattle.std.proofs.Common.{◌≡◌, ℕ, ◌-◌, ◌≤◌, true, false, ltb, List, length, map, take, drop, refl, sym, ap, ◌∙◌, arith, length-drop}
use Rattle.std.specs.Prelude.{min}
use Rattle.std.proofs.lemmas.Bool.{ltb-true, ltb-false}
use Rattle.std.proofs.lemmas.List.{drop_all, length-map, take-map, take_all}
use Rattle.std.specs.List.{drop-map}

module _ {A B : Type 0} (f : A → B) (xs : List A) (n m : ℕ) (is : m ≡ min n (length xs)) where
  pub front : map f (take m xs) ≡ take n (map f xs)
  front =
      elim (ltb n (length xs)) as (λ b. ltb n (length xs) ≡ b → map f (take m xs) ≡ take n (map f xs)) [
        | true ↦ λ e. let less = ltb-true _ _ e in let same : m ≡ n = omega arith in rw same (sym (take-map f n xs))
        | false ↦ λ e. let few = ltb-false _ _ e in let same : m ≡ length xs = omega arith in
            let most : length (map f xs) ≤ n = omega (arith, length-map xs f) in
            rw same (ap (map f) (take_all (length xs) xs (omega arith)) ∙ sym (take_all n (map f xs) most))
      ] refl

  whole : take (length xs - m) (drop m xs) ≡ drop m xs
  whole = take_all (length xs - m) (drop m xs) (omega (arith, length-drop {A = A}))

  back_drop : map f (drop m xs) ≡ drop n (map f xs)
  back_drop =
      elim (ltb n (length xs)) as (λ b. ltb n (length xs) ≡ b → map f (drop m xs) ≡ drop n (map f xs)) [
        | true ↦ λ e. let less = ltb-true _ _ e in let same : m ≡ n = omega arith in rw same (sym (drop-map f n xs))
        | false ↦ λ e. let few = ltb-false _ _ e in let same : m ≡ length xs = omega arith in
            let most : length (map f xs) ≤ n = omega (arith, length-map xs f) in
            rw same (ap (map f) (drop_all (length xs) xs (omega arith)) ∙ sym (drop_all n (map f xs) most))
      ] refl

  pub back : map f (take (length xs - m) (drop m xs)) ≡ drop n (map f xs)
  back = ap (map f) whole ∙ back_drop
