-- The slots of a list of blocks, in its order, and what they say of the blocks.
use Rattle.std.proofs.Common.{◌≡◌, ℕ, suc, ◌<◌, ◌≤◌, List, [], ◌∷◌, length, map, Option, Some, None, option_map, slice_get, refl, sym, ◌∙◌, ap, arith}
use Rattle.std.specs.List.{All}
use Rattle.std.proofs.lemmas.List.{length-map}
use Rattle.std.proofs.lemmas.List.Elements.{All-nil, All-cons}
use Rattle.ti_source.specs.declared.parsing.Rule.{Rule}
use Rattle.ti_source.specs.Cutting.{OneBlock}
use Rattle.ti_source.specs.Reading.{reading_of}
use Rattle.base_meaning.specs.Readings.{reading_by, readings_by}
use Rattle.base_meaning.specs.Exchange.{with_block, HasPlace, shifted_position}
use Rattle.base_meaning.proofs.EditedLists.{map-insert}
use Rattle.base_meaning.proofs.Placing.{get-insert}
use Rattle.base_slots.specs.declared.slots.Slot.{Slot}
use Rattle.base_slots.specs.declared.slots.Slots.{Slots}
use Rattle.base_slots.specs.Slots.{slots_of, blocks_of, slot_texts}
use Rattle.base_slots.proofs.Owners.{length_texts}
use Rattle.ti_base.specs.inside.Database.{reading_seen, text_seen, AreRead, EachSlot, IsSoundSlot, SlotsAreSound, HasRule, HaveRule, PlacedSlot, with_slot}
use Rattle.ti_base.specs.inside.Database.{block_seen}

-- there are as many as texts
pub as_many_listed : (slots : Slots) (texts : List (List ℕ)) (count : ℕ) → slot_texts slots ≡ texts → count ≡ length texts → length slots.placed ≡ count
as_many_listed slots texts count e n = sym (length_texts slots) ∙ (ap (λ xs. length xs) e ∙ sym n)

pub within_list : (slots : Slots) (texts : List (List ℕ)) (at count : ℕ) → slot_texts slots ≡ texts → count ≡ length texts → at < count
    → at < length slots.placed
within_list slots texts at count e n l = rw (as_many_listed slots texts count e n) l

-- ---- each text is one block

pub texts_single : (listed : List Slot) → SlotsAreSound listed → All OneBlock (map text_seen listed)
texts_single [] h = All-nil OneBlock
texts_single (slot ∷ listed) h =
    All-cons OneBlock (text_seen slot) (map text_seen listed) ((h 0 slot refl).text.block) (texts_single listed (λ at s e. h (suc at) s e))

-- ---- blocks are read from their texts

pub block_read : (rule : Rule) (slot : Slot) → IsSoundSlot slot → HasRule rule slot → reading_of slot.block ≡ reading_by rule slot.text.items
block_read rule slot h k = h.read ∙ ap (λ r. reading_by r slot.text.items) k

read_from_texts : (rule : Rule) (listed : List Slot) → SlotsAreSound listed → EachSlot (HasRule rule) listed
    → map reading_seen listed ≡ readings_by rule (map text_seen listed)
read_from_texts rule [] h k = refl
read_from_texts rule (slot ∷ listed) h k =
    ap (λ b. b ∷ map reading_seen listed) (block_read rule slot (h 0 slot refl) (k 0 slot refl))
    ∙ ap (λ bs. reading_by rule slot.text.items ∷ bs) (read_from_texts rule listed (λ at s e. h (suc at) s e) (λ at s e. k (suc at) s e))

pub blocks_read : (rule : Rule) (slots : Slots) → AreRead slots → HaveRule rule slots → blocks_of slots ≡ readings_by rule (slot_texts slots)
blocks_read rule slots h k = read_from_texts rule (slots_of slots) h.sound k

-- ---- a slot put in

pub readings_with : (rest : List Slot) (o : Option PlacedSlot) → map reading_seen (with_slot rest o)
    ≡ with_block (map reading_seen rest) (option_map block_seen o)
readings_with rest None = refl
readings_with rest (Some p) = map-insert reading_seen rest p.at p.slot

pub get-with_slot : (rest : List Slot) (o : Option PlacedSlot) (k : ℕ) → HasPlace (map reading_seen rest) (option_map block_seen o)
    → slice_get (with_slot rest o) (shifted_position (option_map block_seen o) k) ≡ slice_get rest k
get-with_slot rest None k l = refl
get-with_slot rest (Some p) k l = get-insert rest p.at p.slot k (let m : p.at ≤ length rest = omega (arith, length-map rest reading_seen) in m)
