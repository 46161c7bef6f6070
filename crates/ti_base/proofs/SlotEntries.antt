-- What the slot of a block says of its text and its entry.
use Rattle.std.proofs.Common.{◌≡◌, ℕ, Bool, true, false, cond, List, Option, Some, None, option_and_then, slice_get, refl, sym, ◌∙◌, ap, subst}
use Rattle.std.proofs.lemmas.Option.{same_Some, slice_get-map}
use Rattle.ti_source.specs.declared.parsing.Rule.{Rule}
use Rattle.ti_source.specs.Reading.{Reading, reading_of}
use Rattle.ti_layout.specs.Values.{contents, Mention}
use Rattle.base_meaning.specs.Readings.{readings_by}
use Rattle.base_meaning.specs.Expansion.{expansion}
use Rattle.base_meaning.specs.Compiled.{EntryState, unresolved, oversized, written, image_of, is_too_large, entry, entry_of, state_with, state_of, compiled_by}
use Rattle.base_meaning.specs.ValueTables.{HasTable}
use Rattle.base_slots.specs.declared.entries.BlockEntry.{BlockEntry}
use Rattle.base_slots.specs.declared.slots.Slot.{Slot}
use Rattle.base_slots.specs.declared.slots.Slots.{Slots}
use Rattle.base_slots.specs.declared.slots.State.{State}
use Rattle.base_slots.specs.declared.slots.State.TheVariants as s
use Rattle.base_slots.specs.Slots.{blocks_of, slot_texts, slots_of}
use Rattle.base_slots.specs.Settled.{state_seen, table_of}
use Rattle.ti_base.specs.inside.Database.{AreKeptBy, text_seen}
use Rattle.base_slots.proofs.Owners.{block_of_slot}
use Rattle.ti_base.proofs.SlotLists.{blocks_read}

-- the bytes that a state has
abbrev pub entry_seen : EntryState → Option (List ℕ)
entry_seen unresolved = None
entry_seen oversized = None
entry_seen (written bytes) = Some bytes

shown_if : (large : Bool) (i : List ℕ) → entry_seen (cond large oversized (written i)) ≡ cond large None (Some i)
shown_if true i = refl
shown_if false i = refl

shown_with : (b : Reading) (o : Option (List Mention)) → entry_seen (state_with b o) ≡ option_and_then (entry_of b) o
shown_with b None = refl
shown_with b (Some ms) = shown_if (is_too_large b ms) (image_of b ms)

pub text_of_slot : (slots : Slots) (at : ℕ) (slot : Slot) → slice_get (slots_of slots) at ≡ Some slot → slice_get (slot_texts slots) at ≡ Some slot.text.items
text_of_slot slots at slot e = rw (slice_get-map text_seen (slots_of slots) at, e) refl

-- the blocks, and that at a position, as they are read by the rule
pub kept_read : (rule : Rule) (slots : Slots) → AreKeptBy rule slots → blocks_of slots ≡ readings_by rule (slot_texts slots)
kept_read rule slots h = blocks_read rule slots h.kept.read h.ruled

block_read_at : (rule : Rule) (slots : Slots) (at : ℕ) (slot : Slot) → AreKeptBy rule slots → slice_get (slots_of slots) at ≡ Some slot
    → slice_get (readings_by rule (slot_texts slots)) at ≡ Some (reading_of slot.block)
block_read_at rule slots at slot h e = ap (λ bs. slice_get bs at) (sym (kept_read rule slots h)) ∙ block_of_slot slots at slot e

-- the values that a slot holds are those of its block
pub table_of_slot : (rule : Rule) (slots : Slots) (at : ℕ) (slot : Slot) (block : Reading) → AreKeptBy rule slots → slice_get (slots_of slots) at ≡ Some slot
    → slice_get (readings_by rule (slot_texts slots)) at ≡ Some block
    → HasTable contents (readings_by rule (slot_texts slots)) block (table_of slot.settled.state)
table_of_slot rule slots at slot block h e there =
    let same = same_Some (reading_of slot.block) block (sym (block_read_at rule slots at slot h e) ∙ there) in
    let P : Reading → Type 0 = λ b. HasTable contents (readings_by rule (slot_texts slots)) b (table_of slot.settled.state) in
    let Q : List Reading → Type 0 = λ bs. HasTable contents bs (reading_of slot.block) (table_of slot.settled.state) in
    subst P same (subst Q (kept_read rule slots h) (h.kept.settled at slot e).table)

-- the entry that a slot holds is the compiled one
pub entry_of_slot : (rule : Rule) (slots : Slots) (at : ℕ) (slot : Slot) → AreKeptBy rule slots → slice_get (slots_of slots) at ≡ Some slot
    → entry_seen (state_seen slot.settled.state) ≡ compiled_by rule (slot_texts slots) at
entry_of_slot rule slots at slot h e =
    let block = reading_of slot.block in
    let read : slice_get (readings_by rule (slot_texts slots)) at ≡ Some block = block_read_at rule slots at slot h e in
    let state : state_seen slot.settled.state ≡ state_of (readings_by rule (slot_texts slots)) block =
    (h.kept.settled at slot e).state ∙ ap (λ bs. state_of bs block) (kept_read rule slots h) in
    let there : compiled_by rule (slot_texts slots) at ≡ entry (readings_by rule (slot_texts slots)) block = rw read refl in
    ap entry_seen state ∙ (shown_with block (expansion (readings_by rule (slot_texts slots)) block) ∙ sym there)

-- what is no entry shows none
pub shown_other : (e : State) → ((entry : BlockEntry) → e ≡ s.Compiled entry → ⊥) → None ≡ entry_seen (state_seen e)
shown_other s.Unresolved h = refl
shown_other (s.TooLarge table) h = refl
shown_other (s.Compiled entry) h = absurd (h entry refl)
