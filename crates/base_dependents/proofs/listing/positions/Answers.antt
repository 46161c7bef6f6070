use Rattle.std.proofs.Common.{◌≡◌, ◌<◌, ◌+◌, ℕ, inl, inr, List, [], ◌∷◌, ◌++◌, length, Some, slice_get, sym, ◌∙◌, ap, arith}
use Rattle.std.proofs.lemmas.Bool.{cases_eq}
use Rattle.std.proofs.lemmas.List.{length_push}
use Rattle.ti_text.proofs.Lists.{get_front, get_last}
use Rattle.base_dependents.proofs.listing.positions.Goals as goal

-- one more position is after the others
positions_more : (positions : List ℕ) (count : ℕ) → length positions ≡ count → ((i : ℕ) → i < count → slice_get positions i ≡ Some i) → (i : ℕ)
    → i < count + 1 → slice_get (positions ++ count ∷ []) i ≡ Some i
positions_more positions count n h i l =
    elim (cases_eq i count) [
      | inl same ↦ rw same (ap (slice_get (positions ++ count ∷ [])) (sym n) ∙ get_last positions count)
      | inr apart ↦ get_front positions (count ∷ []) i i (h i (let below : i < count = omega arith in below))
    ]

pub loop-place-preserved : goal.loop-place-preserved
loop-place-preserved c =
    let positions = c.loop-place.positions.items in
    let count = c.loop-place.place in
    rw c.in_ok-push.ensures.items
    (length_push positions count ∙ ap (λ n. n + 1) c.loop-place.invariant.0, positions_more positions count c.loop-place.invariant.0 c.loop-place.invariant.1)
