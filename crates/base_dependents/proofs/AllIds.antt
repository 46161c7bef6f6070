-- All ids of a list, none of which is there twice.
use Rattle.std.proofs.Common.{◌≡◌, ℕ, ◌+◌, ◌<◌, inl, inr, false, cond, List, [], ◌∷◌, ◌++◌, length, take, get_or, nat_eq, Some, slice_get, sym, ◌∙◌, ap, arith}
use Rattle.std.specs.List.{list_any}
use Rattle.std.proofs.lemmas.Bool.{cases_Bool}
use Rattle.std.proofs.lemmas.List.{take_more}
use Rattle.std.proofs.lemmas.Option.{slice_get-get_or}
use Rattle.ti_text.specs.Lists.{AreDistinct}
use Rattle.ti_text.proofs.Lists.{take_get, Has_from_any}

-- an id is not before its place
not_before : (ids : List ℕ) (at id : ℕ) → AreDistinct ids → slice_get ids at ≡ Some id → list_any (nat_eq id) (take at ids) ≡ false
not_before ids at id once e =
    elim (cases_Bool (list_any (nat_eq id) (take at ids))) [
      | inl there ↦
          let f = Has_from_any (take at ids) id there in
          let w = take_get at ids f.0 id f.1 in
          let same : f.0 ≡ at = once f.0 at id w.1 e in
          absurd (omega (arith, w.0))
      | inr none ↦ none
    ]

-- one more id is put after the others
pub listed_more : (ids old new : List ℕ) (at : ℕ) → AreDistinct ids → at < length ids → old ≡ take at ids
    → new ≡ cond (list_any (nat_eq (get_or ids at 0)) old) old (old ++ get_or ids at 0 ∷ []) → new ≡ take (at + 1) ids
listed_more ids old new at once l e grown =
    let id = get_or ids at 0 in
    let fresh : list_any (nat_eq id) old ≡ false = ap (list_any (nat_eq id)) e ∙ not_before ids at id once (slice_get-get_or ids at 0 l) in
    let put : new ≡ old ++ id ∷ [] = rw fresh at grown in
    put ∙ (ap (λ xs. xs ++ id ∷ []) e ∙ sym (take_more ids at 0 l))
