-- The blocks of a list under stable ids, and whose a name is (own).
use Rattle.std.specs.Prelude.{ℕ, ◌≡◌, List, [], ◌∷◌, map, filter, Option, Some, None, slice_get, Bool, cond, nat_eq}
use Rattle.std.specs.Option.{option_map_or}
use Rattle.std.specs.Str.{bytes_eq}
use Rattle.ti_source.specs.declared.parsing.Rule.TheVariants.{Leftmost}
use Rattle.ti_source.specs.Reading.{Reading, reading_of}
use Rattle.base_meaning.specs.Owner.{is_among, owner}
use Rattle.base_meaning.specs.Reaching.{any_use}
use Rattle.base_slots.specs.Listing.{Placed}
use Rattle.base_slots.specs.declared.slots.Settled.{Settled}
use Rattle.base_slots.specs.declared.slots.Slot.{Slot}
use Rattle.base_slots.specs.declared.slots.Slots.{Slots}

-- the ids in the order of the list
abbrev pub ids_of : Slots → List ℕ
ids_of slots = map (λ placed. placed.id) slots.placed

-- the slots in that order
abbrev pub slots_of : Slots → List Slot
slots_of slots = map (λ placed. placed.slot) slots.placed

-- the blocks, as they are read
abbrev pub blocks_of : Slots → List Reading
blocks_of slots = map (λ slot. reading_of slot.block) (slots_of slots)

-- their texts
abbrev pub slot_texts : Slots → List (List ℕ)
slot_texts slots = map (λ slot. slot.text.items) (slots_of slots)

-- the block with the id is at that position of the list
abbrev pub StandsAt : Slots → ℕ → ℕ → Type 0
StandsAt slots at id = slice_get (ids_of slots) at ≡ Some id

-- the name belongs to the block with the id
abbrev pub IsOwnerId : Slots → List ℕ → ℕ → Type 0
IsOwnerId slots name id = (at : ℕ) × (owner (blocks_of slots) name ≡ Some at) × StandsAt slots at id

-- whether a block has the name among its lookup names
abbrev pub has_name : List ℕ → Placed → Bool
has_name name placed = is_among name (reading_of placed.slot.block).names

-- whether it uses the name
abbrev pub uses_name : List ℕ → Placed → Bool
uses_name name placed = any_use (bytes_eq name) (reading_of placed.slot.block).items

-- the ids of the blocks that have the name, in the order of the list
abbrev pub holders_of : Slots → List ℕ → List ℕ
holders_of slots name = map (λ placed. placed.id) (filter (has_name name) slots.placed)

-- the ids of the blocks that use it, in that order
abbrev pub users_of : Slots → List ℕ → List ℕ
users_of slots name = map (λ placed. placed.id) (filter (uses_name name) slots.placed)

-- ---- by id

-- the first slot under an id
abbrev pub slot_under : List Placed → ℕ → Option Slot
slot_under [] id = None
slot_under (placed ∷ others) id = cond (nat_eq placed.id id) (Some placed.slot) (slot_under others id)

-- the slot of the block with the id
abbrev pub slot_at : Slots → ℕ → Option Slot
slot_at slots id = slot_under slots.placed id

-- a block that says nothing
abbrev pub empty_reading : Reading
empty_reading = record { rule = Leftmost; field = []; names = []; items = []; faults = [] }

-- the block with the id, as it is read
abbrev pub reading_at : Slots → ℕ → Reading
reading_at slots id = option_map_or (λ slot. reading_of slot.block) (slot_at slots id) empty_reading

-- ---- what was found out about a block

-- the block, with that found out about it if it has the id
abbrev pub settled_if : ℕ → Settled → Placed → Placed
settled_if id settled placed = cond (nat_eq placed.id id) (record placed { slot = record placed.slot { settled = settled } }) placed

-- the list, with that found out about the block with the id
abbrev pub settled_in : Slots → ℕ → Settled → Slots
settled_in slots id settled = record slots { placed = map (settled_if id settled) slots.placed }
