use Rattle.std.proofs.Common.{◌≡◌, ◌∙◌, true, false, sym, arith}
use Rattle.source_spans.specs.inside.Lines.{range_at}
use Rattle.source_spans.proofs.Computing.{plain_line}
use Rattle.source_spans.proofs.Lines.{front_here, front_next}
use Rattle.source_spans.proofs.folding.line_front.Goals as goal

pub returns-then-not-joining-clause-read : goal.returns-then-not-joining-clause-read
returns-then-not-joining-clause-read c =
    let line = range_at c.args.block.now c.args.start c.args.end in
    let alone : c.args.joining ≡ false = c.if-not-joining.true in
    rw alone (plain_line line c.requires.none)

pub returns-then-not-is_white_space-clause-read : goal.returns-then-not-is_white_space-clause-read
returns-then-not-is_white_space-clause-read c =
    let after : c.args.joining ≡ true = c.if-not-joining.false in
    rw after (front_here c.args.block.now c.args.start c.args.end c.loop-at.at (omega arith) c.requires.within c.loop-at.invariant
    (sym c.is_white_space.ensures ∙ c.if-not-is_white_space.true))

pub loop-at-preserved : goal.loop-at-preserved
loop-at-preserved c =
    front_next c.args.block.now c.args.start c.args.end c.loop-at.at (omega arith) c.requires.within c.loop-at.invariant
    (sym c.is_white_space.ensures ∙ c.if-not-is_white_space.false)
