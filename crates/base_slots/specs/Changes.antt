-- What becomes of a list of blocks as one is put in or taken out (own).
use Rattle.std.specs.Prelude.{ℕ, ◌≡◌, ◌≤◌, ◌<◌, [], ◌∷◌, ◌++◌, List, Option, None, insert, remove, length, Some, true, slice_get}
use Rattle.std.specs.Option.{option_map_or}
use Rattle.std.specs.Map.{lookup}
use Rattle.std.specs.Str.{bytes_eq}
use Rattle.ti_source.specs.Reading.{Reading, reading_of}
use Rattle.base_meaning.specs.Owner.{is_among}
use Rattle.base_meaning.specs.Reaching.{Uses}
use Rattle.ti_text.specs.Lists.{Has}
use Rattle.base_slots.specs.Listing.{Room}
use Rattle.base_slots.specs.declared.slots.Slot.{Slot}
use Rattle.base_slots.specs.declared.slots.Slots.{Slots}
use Rattle.base_slots.specs.Slots.{holders_of, ids_of, users_of}

-- ---- room

-- what is stored for a name
abbrev pub room_at : Slots → List ℕ → Option Room
room_at slots name = lookup (bytes_eq name) slots.rooms

-- how many blocks that have the name can be listed without more memory
abbrev pub holder_capacity : Slots → List ℕ → ℕ
holder_capacity slots name = option_map_or (λ room. room.holders) (room_at slots name) 0

-- how many that use it
abbrev pub user_capacity : Slots → List ℕ → ℕ
user_capacity slots name = option_map_or (λ room. room.users) (room_at slots name) 0

-- a block that says this can be put in without memory
pub record HasRoomFor (slots : Slots) (block : Reading) : Type 0 where
  pub id : 0 < length slots.free
  pub holders : (name : List ℕ) → is_among name block.names ≡ true → length (holders_of slots name) < holder_capacity slots name
  pub users : (name : List ℕ) → Uses block.items name → length (users_of slots name) < user_capacity slots name

-- each block that had room has it
abbrev pub KeepsRooms : Slots → Slots → Type 0
KeepsRooms old new = (block : Reading) → HasRoomFor old block → HasRoomFor new block

-- no name has lost capacity
pub record KeepsCapacities (old new : Slots) : Type 0 where
  pub holders : (name : List ℕ) → holder_capacity old name ≤ holder_capacity new name
  pub users : (name : List ℕ) → user_capacity old name ≤ user_capacity new name

-- nothing is stored for a name that no block has or uses
abbrev pub IsForgotten : Slots → List ℕ → Type 0
IsForgotten slots name = holders_of slots name ≡ [] → users_of slots name ≡ [] → room_at slots name ≡ None

-- nothing is kept of those names of a block, and of those that it uses, which no block of the list
-- has or uses
pub record HasForgotten (slots : Slots) (block : Reading) : Type 0 where
  pub names : (name : List ℕ) → is_among name block.names ≡ true → IsForgotten slots name
  pub uses : (name : List ℕ) → Uses block.items name → IsForgotten slots name

-- ---- changes

-- the slot has come to that position of the list, under the id that was freed last
pub record PutsIn (old new : Slots) (at : ℕ) (slot : Slot) (id : ℕ) : Type 0 where
  pub placed : new.placed ≡ insert old.placed at (record { id = id; slot = slot })
  pub fresh : ¬ Has (ids_of old) id
  pub free : old.free ≡ new.free ++ id ∷ []
  pub capacity : KeepsCapacities old new

-- the block at that position has left the list, with its slot; its id is the one freed last. There
-- is room for it
pub record TakesOut (old new : Slots) (at : ℕ) (slot : Slot) : Type 0 where
  pub id : ℕ
  pub was : slice_get old.placed at ≡ Some (record { id = id; slot = slot })
  pub placed : new.placed ≡ remove old.placed at
  pub free : new.free ≡ old.free ++ id ∷ []
  pub capacity : KeepsCapacities old new
  pub room : HasRoomFor new (reading_of slot.block)
  pub rooms : KeepsRooms old new
