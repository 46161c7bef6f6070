-- Ids in the order of a list (own).
use Rattle.std.specs.Prelude.{ℕ, ◌≡◌, ◌≤◌, ◌+◌, ◌^◌, List, length, Some, slice_get}
use Rattle.base_index.specs.inside.Labels.{AreLabelled}
use Rattle.ti_text.specs.Lists.{AreBelow, AreDistinct}

-- the ids of a list, in its order, and those that are not in it, the last freed at the end
pub record Ids : Type 0 where
  pub listed : List ℕ
  pub free : List ℕ

-- what is kept: each id below the number of labels is in the list or free, once; labels rise along
-- the list; there is room to move every id
pub record IsOrder (ids labels free : List ℕ) (ids_room free_room : ℕ) : Type 0 where
  pub labelled : AreLabelled ids labels
  pub ids_known : AreBelow ids (length labels)
  pub free_known : AreBelow free (length labels)
  pub ids_distinct : AreDistinct ids
  pub free_distinct : AreDistinct free
  pub apart : (i j id : ℕ) → slice_get ids i ≡ Some id → slice_get free j ≡ Some id → ⊥
  pub count : length ids + length free ≡ length labels
  pub few : length labels ≤ 2 ^ 31
  pub ids_fit : length labels ≤ ids_room
  pub free_fit : length labels ≤ free_room
