-- Labels that rise along a list of ids (own).
use Rattle.std.specs.Prelude.{ℕ, suc, ◌≡◌, ◌<◌, ◌≤◌, ◌^◌, ◌⊎◌, List, length, Some, slice_get}

-- the id at that position has that label
abbrev pub HasLabel : List ℕ → List ℕ → ℕ → ℕ → Type 0
HasLabel ids labels i label = (id : ℕ) × (slice_get ids i ≡ Some id) × (slice_get labels id ≡ Some label)

-- labels rise along the ids, above 0 and below 2^63
pub record AreLabelled (ids labels : List ℕ) : Type 0 where
  pub rises : (i j x y : ℕ) → i < j → HasLabel ids labels i x → HasLabel ids labels j y → x < y
  pub above : (i x : ℕ) → HasLabel ids labels i x → 0 < x
  pub below : (i x : ℕ) → HasLabel ids labels i x → x < 2 ^ 63

-- the labels on either side of a position between ids: the nearest, or the ends
pub record IsGap (ids labels : List ℕ) (position low high : ℕ) : Type 0 where
  pub low_label : ((position ≡ 0) × (low ≡ 0)) ⊎ ((i : ℕ) × (position ≡ suc i) × HasLabel ids labels i low)
  pub high_label : ((position ≡ length ids) × (high ≡ 2 ^ 63)) ⊎ HasLabel ids labels position high

-- the label is between those before the position and those from it on
pub record FitsAt (ids labels : List ℕ) (position label : ℕ) : Type 0 where
  pub behind : (i x : ℕ) → i < position → HasLabel ids labels i x → x < label
  pub before : (i x : ℕ) → position ≤ i → HasLabel ids labels i x → label < x
  pub above : 0 < label
  pub below : label < 2 ^ 63
