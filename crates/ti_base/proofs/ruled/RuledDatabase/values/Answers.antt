use Rattle.std.proofs.Common.{◌≡◌, Some, Option, option_map, length, refl, slice_get, ap, sym, subst}
use Rattle.ti_layout.specs.declared.values.Table.{Table}
use Rattle.ti_layout.specs.Values.{contents}
use Rattle.base_meaning.specs.Readings.{readings_by}
use Rattle.base_meaning.specs.ValueTables.{HasTable}
use Rattle.base_slots.specs.Slots.{slot_texts}
use Rattle.ti_base.specs.RuledTexts.{RuledTexts}
use Rattle.ti_base.proofs.SlotEntries.{table_of_slot}
use Rattle.ti_base.proofs.SlotLists.{within_list}
use Rattle.ti_base.proofs.ruled.RuledDatabase.values.Goals as goal

pub returns : goal.returns
returns c = λ block there.
    let rule = c.self.inside.rule in
    let slots = c.self.inside.slots in
    let Kept : RuledTexts → Type 0 = λ s. slice_get (readings_by s.rule s.texts) c.args.at ≡ Some block
    → HasTable contents (readings_by s.rule s.texts) block (option_map (λ table. table.now) c.table_of.result) in
    let Given : Option Table → Type 0 = λ table. HasTable contents (readings_by rule (slot_texts slots)) block table in
    subst Kept c.self.view_is (λ here. subst Given (sym c.table_of.ensures)
    (table_of_slot rule slots c.args.at c.slot_of.result.now block c.self.invariant c.slot_of.ensures here)) there

pub slot_of-requires : goal.slot_of-requires
slot_of-requires c =
    within_list c.self.inside.slots c.args.self.now.texts c.args.at (length c.args.self.now.texts) (ap (λ (s : RuledTexts). s.texts) c.self.view_is) refl
    c.requires
