-- What a database stores of its blocks (own): the slot of each, in the order of the list.
use Rattle.std.specs.Prelude.{ℕ, ◌≡◌, ◌≤◌, ◌↔◌, List, [], ◌∷◌, length, map, insert, Option, Some, None, option_map, slice_get}
use Rattle.ti_text.specs.Limits.{blocks_max}
use Rattle.ti_source.specs.declared.parsing.Rule.{Rule}
use Rattle.ti_source.specs.Reading.{Reading, reading_of}
use Rattle.base_meaning.specs.Readings.{reading_by}
use Rattle.base_meaning.specs.Usable.{IsUsable}
use Rattle.base_meaning.specs.Exchange.{PlacedBlock, Exchange}
use Rattle.base_meaning.specs.Dependents.{IsPutAt}
use Rattle.base_slots.specs.declared.slots.Slot.{Slot}
use Rattle.base_slots.specs.declared.slots.Settled.{Settled}
use Rattle.base_slots.specs.declared.slots.Slots.{Slots}
use Rattle.base_slots.specs.Slots.{StandsAt, slots_of, settled_in}
use Rattle.base_slots.specs.Settled.{IsSettled}
use Rattle.ti_base.specs.inside.Texts.{IsBlockText}

-- the block in a slot as it is read, and its text
abbrev pub reading_seen : Slot → Reading
reading_seen slot = reading_of slot.block

abbrev pub text_seen : Slot → List ℕ
text_seen slot = slot.text.items

-- this holds of each slot of a list
abbrev pub EachSlot : (Slot → Type 0) → List Slot → Type 0
EachSlot Holds listed = (at : ℕ) (slot : Slot) → slice_get listed at ≡ Some slot → Holds slot

-- the text of one block, and the block as it is read from it by a rule
pub record IsSoundSlot (slot : Slot) : Type 0 where
  pub text : IsBlockText slot.text.items
  pub read : reading_of slot.block ≡ reading_by slot.block.rule slot.text.items
  pub usable : IsUsable (reading_of slot.block)

-- each slot of a list is sound
abbrev pub SlotsAreSound : List Slot → Type 0
SlotsAreSound listed = EachSlot IsSoundSlot listed

-- the block of a slot is read by this rule
abbrev pub HasRule : Rule → Slot → Type 0
HasRule rule slot = slot.block.rule ≡ rule

-- and so is each of a list
abbrev pub HaveRule : Rule → Slots → Type 0
HaveRule rule slots = EachSlot (HasRule rule) (slots_of slots)

-- blocks that are all read by one rule still are
abbrev pub KeepsRule : Slots → Slots → Type 0
KeepsRule old new = (rule : Rule) → HaveRule rule old → HaveRule rule new

-- what each slot holds is right for its block in the list
abbrev pub SlotsAreSettled : List Slot → Type 0
SlotsAreSettled listed = (at : ℕ) (slot : Slot) → slice_get listed at ≡ Some slot
    → IsSettled (map reading_seen listed) at (reading_of slot.block) slot.settled

-- at most 65,535 blocks, each read from its text
pub record AreRead (slots : Slots) : Type 0 where
  pub few : length slots.placed ≤ blocks_max
  pub sound : SlotsAreSound (slots_of slots)

-- and settled
pub record AreKept (slots : Slots) : Type 0 where
  pub read : AreRead slots
  pub settled : SlotsAreSettled (slots_of slots)

-- and all read by this rule
pub record AreKeptBy (rule : Rule) (slots : Slots) : Type 0 where
  pub kept : AreKept slots
  pub ruled : HaveRule rule slots

-- the slot of a block put in or taken out, and its position
pub record PlacedSlot : Type 0 where
  pub at : ℕ
  pub slot : Slot

-- a list of slots with the one put in, if there is one
abbrev pub with_slot : List Slot → Option PlacedSlot → List Slot
with_slot rest None = rest
with_slot rest (Some placed) = insert rest placed.at placed.slot

-- what the exchange of a block is in the blocks as they are read
abbrev pub block_seen : PlacedSlot → PlacedBlock
block_seen placed = record { at = placed.at; block = reading_of placed.slot.block }

abbrev pub exchange_with : List Slot → Option PlacedSlot → Option PlacedSlot → Exchange
exchange_with rest out put = record { rest = map reading_seen rest; out = option_map block_seen out; put = option_map block_seen put }

-- the block put in, if there is one, has the id
abbrev pub HasId : Slots → Option PlacedSlot → Option ℕ → Type 0
HasId slots put id = (at other : ℕ) → StandsAt slots at other → IsPutAt (option_map block_seen put) at ↔ (id ≡ Some other)

-- ---- what was found out about blocks is exchanged

-- the list with that found out about the blocks of these ids, in turn
abbrev pub settled_all : Slots → List ℕ → List Settled → Slots
settled_all slots [] settled = slots
settled_all slots (id ∷ ids) [] = slots
settled_all slots (id ∷ ids) (settled ∷ more) = settled_all (settled_in slots id settled) ids more
