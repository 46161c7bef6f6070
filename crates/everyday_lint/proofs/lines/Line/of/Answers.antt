use Rattle.std.proofs.Common.{◌∙◌, ap, sym}
use Rattle.source_places.specs.LineTexts.{until_end}
use Rattle.everyday_lint.proofs.Walking.{line_of_line}
use Rattle.everyday_lint.proofs.lines.Line.of.Goals as goal

pub invariant_of-result : goal.invariant_of-result
invariant_of-result c =
    let is = c.first_of-bytes.ensures in
    (c.are_ascii.ensures, ap until_end is ∙ line_of_line c.args.text.now ∙ sym is)
