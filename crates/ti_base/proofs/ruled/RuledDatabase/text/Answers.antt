use Rattle.std.proofs.Common.{length, refl, Some, slice_get, ap, sym, ◌∙◌}
use Rattle.ti_base.specs.RuledTexts.{RuledTexts}
use Rattle.ti_base.proofs.SlotEntries.{text_of_slot}
use Rattle.ti_base.proofs.SlotLists.{within_list}
use Rattle.ti_base.proofs.ruled.RuledDatabase.text.Goals as goal

pub returns : goal.returns
returns c =
    ap (λ (s : RuledTexts). slice_get s.texts c.args.at) (sym c.self.view_is)
    ∙ (text_of_slot c.self.inside.slots c.args.at c.slot_of.result.now c.slot_of.ensures ∙ ap (λ text. Some text) (sym c.deref.ensures.value))

pub slot_of-requires : goal.slot_of-requires
slot_of-requires c =
    within_list c.self.inside.slots c.args.self.now.texts c.args.at (length c.args.self.now.texts) (ap (λ (s : RuledTexts). s.texts) c.self.view_is) refl
    c.requires
