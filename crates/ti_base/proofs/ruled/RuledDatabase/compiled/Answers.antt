use Rattle.std.proofs.Common.{length, refl, Some, ap, sym, ◌∙◌}
use Rattle.base_meaning.specs.Compiled.{compiled_by}
use Rattle.base_slots.specs.Settled.{state_seen}
use Rattle.ti_base.specs.RuledTexts.{RuledTexts}
use Rattle.ti_base.proofs.SlotEntries.{entry_seen, shown_other, entry_of_slot}
use Rattle.ti_base.proofs.SlotLists.{within_list}
use Rattle.ti_base.proofs.ruled.RuledDatabase.compiled.Goals as goal

pub returns-in-Compiled : goal.returns-in-Compiled
returns-in-Compiled c =
    let kept = entry_of_slot c.self.inside.rule c.self.inside.slots c.args.at c.slot_of.result.now c.self.invariant c.slot_of.ensures in
    ap (λ x. Some x) c.bytes.ensures.image ∙ (ap (λ e. entry_seen (state_seen e)) (sym c.in-Compiled.is)
    ∙ (kept ∙ ap (λ (s : RuledTexts). compiled_by s.rule s.texts c.args.at) c.self.view_is))

pub returns-in_default : goal.returns-in_default
returns-in_default c =
    let kept = entry_of_slot c.self.inside.rule c.self.inside.slots c.args.at c.slot_of.result.now c.self.invariant c.slot_of.ensures in
    shown_other c.slot_of.result.now.settled.state (λ entry e. c.in_default.not-Compiled entry e)
    ∙ (kept ∙ ap (λ (s : RuledTexts). compiled_by s.rule s.texts c.args.at) c.self.view_is)

pub slot_of-requires : goal.slot_of-requires
slot_of-requires c =
    within_list c.self.inside.slots c.args.self.now.texts c.args.at (length c.args.self.now.texts) (ap (λ (s : RuledTexts). s.texts) c.self.view_is) refl
    c.requires
