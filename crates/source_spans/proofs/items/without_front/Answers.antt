use Rattle.std.proofs.Common.{sym, ◌∙◌, arith}
use Rattle.ti_source.specs.Items.{without_front}
use Rattle.source_spans.specs.Parts.{part_of}
use Rattle.source_spans.proofs.Seeing.{front_found, front_more}
use Rattle.source_spans.proofs.items.without_front.Goals as goal

pub returns-then-not-is_white_space-clause-part : goal.returns-then-not-is_white_space-clause-part
returns-then-not-is_white_space-clause-part c =
    front_found c.args.text.now c.loop-at.at c.args.part.end (0, 0) (without_front (part_of c.args.text.now c.args.part)) (omega arith) (omega arith)
    (sym c.is_white_space.ensures ∙ c.if-not-is_white_space.true) c.loop-at.invariant

pub loop-at-preserved : goal.loop-at-preserved
loop-at-preserved c =
    front_more c.args.text.now c.loop-at.at c.args.part.end (0, 0) (without_front (part_of c.args.text.now c.args.part)) (omega arith) (omega arith)
    (sym c.is_white_space.ensures ∙ c.if-not-is_white_space.false) c.loop-at.invariant
