use Rattle.std.proofs.Common.{map, ap, ◌∙◌}
use Rattle.base_meaning.specs.Faults.{fault_seen, faults}
use Rattle.base_meaning.specs.Readings.{readings_by}
use Rattle.ti_base.specs.RuledTexts.{RuledTexts}
use Rattle.ti_base.proofs.SlotEntries.{kept_read}
use Rattle.ti_base.proofs.ruled.RuledDatabase.report.Goals as goal

pub report_of-requires-clause-all : goal.report_of-requires-clause-all
report_of-requires-clause-all c =
    ap (map fault_seen) c.deref.ensures.value
    ∙ (c.in_ok-found.ensures ∙ (ap faults (kept_read c.self.inside.rule c.self.inside.slots c.self.invariant)
    ∙ ap (λ (s : RuledTexts). faults (readings_by s.rule s.texts)) c.self.view_is))
