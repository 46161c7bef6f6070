-- What a list of blocks is seen as (own).
use Rattle.std.specs.Prelude.{ℕ, List}
use Rattle.base_slots.specs.declared.slots.Slot.{Slot}

-- a block of the list: its slot, and the id that it is under
pub record Placed : Type 0 where
  pub id : ℕ
  pub slot : Slot

-- how many blocks that have a name, and how many that use it, can be listed without more memory
pub record Room : Type 0 where
  pub holders : ℕ
  pub users : ℕ

-- the blocks in the order of the list; the ids that are free, the last freed at the end; and the
-- names that something is stored for, each with its room
pub record Listing : Type 0 where
  pub placed : List Placed
  pub free : List ℕ
  pub rooms : List (List ℕ × Room)
