use Rattle.std.proofs.Common.{◌≡◌, ◌<◌, ℕ, length, Some, slice_get}
use Rattle.base_dependents.proofs.listing.positions.Given as goal

abbrev pub invariant-loop-place : goal.invariant-loop-place
invariant-loop-place l = (length l.positions.items ≡ l.place) × ((i : ℕ) → i < l.place → slice_get l.positions.items i ≡ Some i)
