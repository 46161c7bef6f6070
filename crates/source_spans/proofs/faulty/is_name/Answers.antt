use Rattle.std.proofs.Common.{◌∙◌}
use Rattle.source_spans.proofs.Seeking.{part_is_name}
use Rattle.source_spans.proofs.faulty.is_name.Goals as goal

pub returns-then-part-name : goal.returns-then-part-name
returns-then-part-name c =
    c.begins_with.ensures.begins ∙ part_is_name c.args.text.now c.args.part c.args.name.now c.requires c.if-part-name.true
