-- What an exchange makes of a list of slots (own).
use Rattle.std.specs.Prelude.{ℕ, ◌≡◌, ◌<◌, ◌≤◌, ⊤, List, [], length, remove, Option, Some, None, option_map, slice_get, IfSome, IsSome}
use Rattle.ti_source.specs.declared.parsing.Rule.{Rule}
use Rattle.ti_source.specs.Reading.{Reading, reading_of}
use Rattle.base_meaning.specs.Edits.{Change, insertion, replacement, removal, relocation, list_after}
use Rattle.base_meaning.specs.Exchange.{Exchange}
use Rattle.base_meaning.specs.Dependents.{AreDependents, RebuildsBy, work}
use Rattle.base_slots.specs.declared.slots.Slot.{Slot}
use Rattle.base_slots.specs.declared.slots.Slots.{Slots}
use Rattle.base_slots.specs.Slots.{StandsAt, blocks_of, slot_texts, slots_of}
use Rattle.base_slots.specs.Changes.{HasRoomFor, TakesOut}
use Rattle.base_dependents.specs.Dependents.{IsExchangeOf}
use Rattle.base_plan.specs.Plans.{IsReady}
use Rattle.ti_base.specs.inside.Database.{AreRead, SlotsAreSettled, IsSoundSlot, HasRule, HaveRule, PlacedSlot, HasId, with_slot}

-- ---- an edit in its parts

-- the position from which it takes a block out
abbrev pub out_position : Change → Option ℕ
out_position (insertion at text) = None
out_position (replacement at text) = Some at
out_position (removal at) = Some at
out_position (relocation from to) = Some from

-- the position at which it puts a block in
abbrev pub put_position : Change → Option ℕ
put_position (insertion at text) = Some at
put_position (replacement at text) = Some at
put_position (removal at) = None
put_position (relocation from to) = Some to

-- the text of the block that is new
abbrev pub new_text : Change → Option (List ℕ)
new_text (insertion at text) = Some text
new_text (replacement at text) = Some text
new_text (removal at) = None
new_text (relocation from to) = None

-- the slot of the new block, if there is one: read from its text, and there is room for it
pub record IsNewOf (slots : Slots) (change : Change) (new : Option Slot) : Type 0 where
  pub text : option_map (λ slot. slot.text.items) new ≡ new_text change
  pub sound : IfSome new IsSoundSlot
  pub room : IfSome new (λ slot. HasRoomFor slots (reading_of slot.block))

-- the names of a block that is not in the list
abbrev pub names_seen : Option Slot → List (List ℕ)
names_seen None = []
names_seen (Some slot) = (reading_of slot.block).names

-- ---- slots exchanged

-- the list without the item at a position, if one is given
abbrev pub without : {X : Type 0} → List X → Option ℕ → List X
without xs None = xs
without xs (Some at) = remove xs at

-- the slot there
abbrev pub slot_out : List Slot → Option ℕ → Option Slot
slot_out listed None = None
slot_out listed (Some at) = slice_get listed at

-- the slot put in: the spare one, or the one taken out if there is none
abbrev pub slot_put : Option Slot → Option Slot → Option Slot
slot_put out None = out
slot_put out (Some new) = Some new

-- the other one
abbrev pub slot_left : Option Slot → Option Slot → Option Slot
slot_left out None = None
slot_left out (Some new) = out

-- the slot that is spare then, if one is
abbrev pub spare_after : Option ℕ → Option Slot → Option Slot → Option Slot
spare_after None out spare = out
spare_after (Some to) out spare = slot_left out spare

-- a slot with a position, if there are both
abbrev pub placed : Option ℕ → Option Slot → Option PlacedSlot
placed None slot = None
placed (Some at) None = None
placed (Some at) (Some slot) = Some (record { at = at; slot = slot })

-- the slot put in with its position, and the list with it
abbrev pub placed_put : List Slot → Option ℕ → Option ℕ → Option Slot → Option PlacedSlot
placed_put listed out put spare = placed put (slot_put (slot_out listed out) spare)

abbrev pub with_exchange : List Slot → Option ℕ → Option ℕ → Option Slot → List Slot
with_exchange listed out put spare = with_slot (without listed out) (placed_put listed out put spare)

-- ---- when slots are exchanged

-- a slot is put in or taken out, and one that is spare is put in
abbrev pub IsOfSlots : Option ℕ → Option ℕ → Option Slot → Type 0
IsOfSlots None None spare = ⊥
IsOfSlots None (Some to) spare = IsSome spare
IsOfSlots (Some at) None spare = spare ≡ None
IsOfSlots (Some at) (Some to) spare = ⊤

-- there is room for a block once the other is taken out, if one is
abbrev pub HasRoomThen : Slots → Option ℕ → Reading → Type 0
HasRoomThen slots None block = HasRoomFor slots block
HasRoomThen slots (Some at) block = (rest : Slots) (taken : Slot) → TakesOut slots rest at taken → HasRoomFor rest block

-- the positions are there, and there is a slot to be put in, and room for it
pub record CanExchange (slots : Slots) (out put : Option ℕ) (spare : Option Slot) : Type 0 where
  pub from : IfSome out (λ at. at < length slots.placed)
  pub into : IfSome put (λ to. to ≤ length (without slots.placed out))
  pub other : IsOfSlots out put spare
  pub room : IfSome spare (λ slot. HasRoomThen slots out (reading_of slot.block))

-- the slot at a position, if one is given, was taken out
abbrev pub IsOut : Slots → Slots → Option ℕ → Option Slot → Type 0
IsOut old new None taken = (new ≡ old) × (taken ≡ None)
IsOut old new (Some at) taken = (slot : Slot) × (taken ≡ Some slot) × TakesOut old new at slot

-- slots were exchanged, and the block put in has the id; the same with the positions exchanged can
-- follow
pub record IsExchanged (old new : Slots) (out put : Option ℕ) (before after : Option Slot) (id : Option ℕ) : Type 0 where
  pub slots : slots_of new ≡ with_exchange (slots_of old) out put before
  pub spare : after ≡ spare_after put (slot_out (slots_of old) out) before
  pub has_id : HasId new (placed_put (slots_of old) out put before) id
  pub listed : (n : ℕ) → id ≡ Some n → (at : ℕ) × StandsAt new at n
  pub back : CanExchange new put out after

-- the same of an edit, and of the way back
abbrev pub IsMade : Slots → Slots → Change → Option Slot → Option Slot → Option ℕ → Type 0
IsMade old new change before after id = IsExchanged old new (out_position change) (put_position change) before after id

abbrev pub CanUndo : Slots → Change → Option Slot → Type 0
CanUndo slots change spare = CanExchange slots (put_position change) (out_position change) spare

abbrev pub IsUndone : Slots → Slots → Change → Option Slot → Type 0
IsUndone old new change spare = slots_of new ≡ with_exchange (slots_of old) (put_position change) (out_position change) spare

-- the list after an edit, and what planning asks of it, given the id of the block put in and the
-- names of one that is spare
pub record IsEdited (old new : Slots) (change : Change) (id : Option ℕ) (names : List (List ℕ)) : Type 0 where
  pub read : AreRead new
  pub texts : slot_texts new ≡ list_after (slot_texts old) change
  pub ready : SlotsAreSettled (slots_of old) → IsReady new id names

-- the same of a list that is read by a rule, and what is rebuilt
pub record IsEditedBy (rule : Rule) (old new : Slots) (change : Change) (id : Option ℕ) (names : List (List ℕ)) : Type 0 where
  pub ruled : HaveRule rule new
  pub rebuilds : (places : List ℕ) (steps : ℕ) → ((e : Exchange) → IsExchangeOf new id names e → AreDependents e places) → steps ≡ work (blocks_of new) places
      → RebuildsBy rule (slot_texts old) change places steps

-- the list was read by a rule, and so was the new block, if there is one
abbrev pub IsEditedByRule : Slots → Slots → Change → Option Slot → Option ℕ → List (List ℕ) → Type 0
IsEditedByRule old new change before id names = (rule : Rule) → HaveRule rule old → IfSome before (HasRule rule) → IsEditedBy rule old new change id names
