use Rattle.std.proofs.Common.{ap, ◌∙◌}
use Rattle.base_meaning.specs.Owner.{owner}
use Rattle.base_meaning.specs.Readings.{readings_by}
use Rattle.ti_base.specs.RuledTexts.{RuledTexts}
use Rattle.ti_base.proofs.AnyRule.{owner_by}
use Rattle.ti_base.proofs.SlotEntries.{kept_read}
use Rattle.ti_base.proofs.ruled.RuledDatabase.owner.Goals as goal

pub returns : goal.returns
returns c =
    c.find_owner.ensures ∙ (ap (λ bs. owner bs c.args.name.now) (kept_read c.self.inside.rule c.self.inside.slots c.self.invariant)
    ∙ (ap (λ (s : RuledTexts). owner (readings_by s.rule s.texts) c.args.name.now) c.self.view_is
    ∙ owner_by c.args.self.now.rule c.args.self.now.texts c.args.name.now))
