-- What the fields of a list of blocks hold, when they fit together, and the list that they show
-- (own).
use Rattle.std.specs.Prelude.{ℕ, ◌≡◌, ◌+◌, ◌≤◌, ◌∷◌, List, [], length, map, filter, Option, Some, IsSome, option_and_then, slice_get, Bool}
use Rattle.std.specs.Option.{option_map_or}
use Rattle.std.specs.Str.{bytes_eq}
use Rattle.std.specs.Vec.{vec_capacity}
use Rattle.std.specs.declared.vec.Vec.{Vec}
use Rattle.std.specs.declared.alloc.Global.{Global}
use Rattle.ti_source.specs.Reading.{Reading, reading_of}
use Rattle.base_meaning.specs.Owner.{is_among}
use Rattle.base_meaning.specs.Reaching.{any_use}
use Rattle.ti_text.specs.Lists.{AreDistinct}
use Rattle.base_index.specs.declared.names.Mentions.{Mentions}
use Rattle.base_index.specs.declared.names.NameIndex.{NameIndex}
use Rattle.base_index.specs.Names.{holders_at, users_at}
use Rattle.base_slots.specs.declared.slots.Slot.{Slot}
use Rattle.base_slots.specs.declared.slots.Slots.TheInside.{Inside}
use Rattle.base_slots.specs.Listing.{Listing, Placed, Room}
use Rattle.base_slots.specs.Slots.{empty_reading}

-- the slot of an id, if a block has the id
abbrev pub slot_stored : List (Option Slot) → ℕ → Option Slot
slot_stored slots id = option_and_then (λ slot. slot) (slice_get slots id)

-- the block with the id, as it is read
abbrev pub reading_stored : List (Option Slot) → ℕ → Reading
reading_stored slots id = option_map_or (λ slot. reading_of slot.block) (slot_stored slots id) empty_reading

-- whether the block with the id has the name
abbrev pub has_stored : List (Option Slot) → List ℕ → ℕ → Bool
has_stored slots name id = is_among name (reading_stored slots id).names

-- whether it uses the name
abbrev pub uses_stored : List (Option Slot) → List ℕ → ℕ → Bool
uses_stored slots name id = any_use (bytes_eq name) (reading_stored slots id).items

-- each id has a place among the slots, and each of the list its slot, once; the index has for each
-- name the blocks that have it and those that use it, in the order of the list
pub record IsIndexed (slots : Inside) : Type 0 where
  pub places : length slots.order.listed + length slots.order.free ≤ length slots.slots.items
  pub distinct : AreDistinct slots.order.listed
  pub filled : (at id : ℕ) → slice_get slots.order.listed at ≡ Some id → IsSome (slot_stored slots.slots.items id)
  pub holders : (name : List ℕ) → holders_at slots.names name ≡ filter (has_stored slots.slots.items name) slots.order.listed
  pub users : (name : List ℕ) → users_at slots.names name ≡ filter (uses_stored slots.slots.items name) slots.order.listed

-- the slots of these ids
abbrev pub placed_of : List (Option Slot) → List ℕ → List Placed
placed_of slots [] = []
placed_of slots (id ∷ ids) = option_map_or (λ slot. record { id = id; slot = slot } ∷ placed_of slots ids) (slot_stored slots id) (placed_of slots ids)

-- the room of a name
abbrev pub room_of : Mentions → Room
room_of mentions = record { holders = vec_capacity mentions.holders; users = vec_capacity mentions.users }

-- a name with its room
abbrev pub room_of_name : Vec ℕ Global × Mentions → List ℕ × Room
room_of_name entry = (entry.0.items, room_of entry.1)

-- all that something is stored for
abbrev pub rooms_of : NameIndex → List (List ℕ × Room)
rooms_of index = map room_of_name index.entries.entries

-- the list that the fields show
abbrev pub listing_of : Inside → Listing
listing_of slots = record {
  placed = placed_of slots.slots.items slots.order.listed;
  free = slots.order.free;
  rooms = rooms_of slots.names;
}
