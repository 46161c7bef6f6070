-- The positions of some ids in a list of ids (own).
use Rattle.std.specs.Prelude.{ℕ, ◌≡◌, List, length, Some, slice_get}

-- the position of each of the ids in the list
pub record ArePositions (listed ids positions : List ℕ) : Type 0 where
  pub as_many : length positions ≡ length ids
  pub stands : (i id at : ℕ) → slice_get ids i ≡ Some id → slice_get positions i ≡ Some at → slice_get listed at ≡ Some id
