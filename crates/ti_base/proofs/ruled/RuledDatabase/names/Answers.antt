use Rattle.std.proofs.Common.{length, refl, List, Some, map, option_map, slice_get, ap, sym, ◌∙◌}
use Rattle.std.specs.Rc.{rc_slice_items}
use Rattle.ti_source.specs.Reading.{Reading}
use Rattle.base_meaning.specs.Readings.{readings_by}
use Rattle.base_slots.proofs.Owners.{block_of_slot}
use Rattle.ti_base.specs.RuledTexts.{RuledTexts}
use Rattle.ti_base.proofs.AnyRule.{part_at}
use Rattle.ti_base.proofs.SlotEntries.{kept_read}
use Rattle.ti_base.proofs.SlotLists.{within_list}
use Rattle.ti_base.proofs.ruled.RuledDatabase.names.Goals as goal

pub returns : goal.returns
returns c =
    let slots = c.self.inside.slots in
    let read = kept_read c.self.inside.rule slots c.self.invariant ∙ ap (λ (s : RuledTexts). readings_by s.rule s.texts) c.self.view_is in
    let here = block_of_slot slots c.args.at c.slot_of.result.now c.slot_of.ensures in
    sym (part_at (λ (b : Reading). b.names) (λ _ _. refl) c.args.self.now.rule c.args.self.now.texts c.args.at)
    ∙ (ap (λ (bs : List Reading). option_map (λ (b : Reading). b.names) (slice_get bs c.args.at)) (sym read)
    ∙ (ap (λ o. option_map (λ (b : Reading). b.names) o) here ∙ ap (λ names. Some (map rc_slice_items names)) (sym c.deref.ensures.value)))

pub slot_of-requires : goal.slot_of-requires
slot_of-requires c =
    within_list c.self.inside.slots c.args.self.now.texts c.args.at (length c.args.self.now.texts) (ap (λ (s : RuledTexts). s.texts) c.self.view_is) refl
    c.requires
