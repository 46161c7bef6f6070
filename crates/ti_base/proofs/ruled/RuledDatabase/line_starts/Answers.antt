use Rattle.std.proofs.Common.{length, map, ap, ◌∙◌}
use Rattle.std.specs.List.{range_with_len}
use Rattle.base_meaning.specs.Report.{lines_before}
use Rattle.ti_base.specs.RuledTexts.{RuledTexts}
use Rattle.ti_base.proofs.ruled.RuledDatabase.line_starts.Goals as goal

pub returns-clause-starts : goal.returns-clause-starts
returns-clause-starts c =
    c.in_ok-starts.ensures.starts ∙ ap (λ (s : RuledTexts). map (lines_before s.texts) (range_with_len 0 (length s.texts))) c.self.view_is
