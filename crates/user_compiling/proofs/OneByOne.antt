-- The states of blocks, found one after another in the order of their tables.
use Rattle.std.proofs.Common.{◌≡◌, ℕ, zero, suc, ◌+◌, ◌<◌, ◌≤◌, inl, inr, List, [], ◌∷◌, map, length, drop, set, Some, None, slice_get, refl, sym, ap, ◌∙◌, arith, subst}
use Rattle.std.specs.List.{AllZip}
use Rattle.std.proofs.lemmas.Bool.{cases_eq}
use Rattle.std.proofs.lemmas.List.{length-set, length-map}
use Rattle.std.proofs.lemmas.Option.{same_Some, none-some, slice_get_within, slice_get-map}
use Rattle.ti_text.proofs.Lists.{item_at, get-set_same, get-set_other}
use Rattle.ti_source.specs.declared.parsing.Rule.{Rule}
use Rattle.user_compiling.specs.declared.compiled.Compiled.{Compiled}
use Rattle.user_compiling.specs.Entries.{IsStateBy, AreStatesBy, state_seen}
use Rattle.user_values.specs.Walking.{IsOrderOf}
use Rattle.user_values.proofs.Resolving.{mapped}

-- those before one place of the order are found
pub record AreFoundBefore (rule : Rule) (texts : List (List ℕ)) (order : List ℕ) (states : List Compiled) (end : ℕ) : Type 0 where
  pub as_many : length states ≡ length texts
  pub done : (j node : ℕ) (text : List ℕ) (state : Compiled) → j < end → slice_get order j ≡ Some node → slice_get texts node ≡ Some text
      → slice_get states node ≡ Some state → IsStateBy rule texts text (state_seen state)

pub none_found : (rule : Rule) (texts : List (List ℕ)) (order : List ℕ) (states : List Compiled) (end : ℕ) → length states ≡ length texts → end ≡ 0
    → AreFoundBefore rule texts order states end
none_found rule texts order states end n z = record { as_many = n; done = λ j node text state l. absurd (omega (arith, z)) }

pub one_found : (rule : Rule) (texts : List (List ℕ)) (order : List ℕ) (states : List Compiled) (end node : ℕ) (one : Compiled)
    → AreFoundBefore rule texts order states end → slice_get order end ≡ Some node → node < length states
    → ((text : List ℕ) → slice_get texts node ≡ Some text → IsStateBy rule texts text (state_seen one)) → AreFoundBefore rule texts order (set states node one) (end + 1)
one_found rule texts order states end node one h o l right = record {
  as_many = length-set states node one ∙ h.as_many;
  done = λ j other text state m e t s. elim (cases_eq other node) [
    | inl same ↦
        let was = item_at states node l in
        let here : slice_get (set states node one) other ≡ Some one = rw same (get-set_same states node was.0 one was.1) in
        subst (λ x. IsStateBy rule texts text (state_seen x)) (same_Some one state (sym here ∙ s)) (right text (rw (← same) t))
    | inr apart ↦
        let before : j < end = elim (cases_eq j end) [
          | inl same ↦ absurd (apart (same_Some other node (sym e ∙ (ap (slice_get order) same ∙ o))))
          | inr place ↦ omega arith
        ] in
        h.done j other text state before e t (sym (get-set_other states node other one apart) ∙ s)
  ];
}

-- when all are found, they are those of the blocks
each_zip : {X Y : Type 0} (R : X → Y → Type 0) (xs : List X) (ys : List Y) → length ys ≡ length xs
    → ((i : ℕ) (x : X) (y : Y) → slice_get xs i ≡ Some x → slice_get ys i ≡ Some y → R x y) → AllZip R xs ys
each_zip R [] [] n h = tt
each_zip R [] (y ∷ ys) n h = absurd (omega (arith, n))
each_zip R (x ∷ xs) [] n h = absurd (omega (arith, n))
each_zip R (x ∷ xs) (y ∷ ys) n h = (h 0 x y refl refl, each_zip R xs ys (omega (arith, n)) (λ i a b ea eb. h (suc i) a b ea eb))

pub all_found : (rule : Rule) (texts : List (List ℕ)) (order : List ℕ) (states : List Compiled) (end : ℕ) → IsOrderOf texts order → length order ≤ end
    → AreFoundBefore rule texts order states end → AreStatesBy rule texts (map state_seen states)
all_found rule texts order states end o past h =
    each_zip (IsStateBy rule texts) texts (map state_seen states) (length-map states state_seen ∙ h.as_many)
    (λ i text seen t s.
    let state = mapped state_seen (slice_get states i) seen (sym (slice_get-map state_seen states i) ∙ s) in
    let w = slice_get_within texts i text t in
    let place = o.listed i w in
    let before = slice_get_within order place.0 i place.1 in
    subst (IsStateBy rule texts text) state.2 (h.done place.0 i text state.0 (omega (arith, before, past)) place.1 t state.1))

-- after the last there is none
pub end_of : (order : List ℕ) (at : ℕ) → None ≡ slice_get order at → length order ≤ at
end_of [] at e = omega arith
end_of (x ∷ xs) zero e = absurd (none-some x e)
end_of (x ∷ xs) (suc at) e = let l = end_of xs at e in omega (arith, l)

-- each step leaves fewer
fewer_after : (order : List ℕ) (at x : ℕ) → slice_get order at ≡ Some x → length (drop (suc at) order) < length (drop at order)
fewer_after [] at x e = absurd (none-some x e)
fewer_after (y ∷ ys) zero x e = omega arith
fewer_after (y ∷ ys) (suc at) x e = fewer_after ys at x e

pub fewer_left : (order : List ℕ) (at x : ℕ) → slice_get order at ≡ Some x → length (drop (at + 1) order) < length (drop at order)
fewer_left order at x e =
    let next : suc at ≡ at + 1 = omega arith in subst (λ (n : ℕ). length (drop n order) < length (drop at order)) next (fewer_after order at x e)
