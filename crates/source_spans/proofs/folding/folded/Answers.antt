use Rattle.std.proofs.Common.{◌≡◌, subst, sym, arith}
use Rattle.source_spans.specs.Folding.{FoldsAt, folded_of}
use Rattle.source_spans.proofs.Computing.{folded_computed}
use Rattle.source_spans.proofs.Lines.{all_read}
use Rattle.source_spans.proofs.OneFolding.{offsets_small}
use Rattle.source_spans.proofs.folding.folded.Goals as goal

pub returns-clause-text : goal.returns-clause-text
returns-clause-text c =
    let l = c.loop-start in
    let all : l.text.items ≡ folded_of c.args.block.now = all_read c.args.block.now l.start l.joining l.text.items (omega arith) l.invariant in
    subst (FoldsAt c.args.block.now) (sym all) (folded_computed c.args.block.now)

pub returns-clause-offsets : goal.returns-clause-offsets
returns-clause-offsets c = offsets_small c.args.block.now c.loop-start.text.items (returns-clause-text c) (omega arith)

pub returns-clause-computed : goal.returns-clause-computed
returns-clause-computed c =
    let l = c.loop-start in
    all_read c.args.block.now l.start l.joining l.text.items (omega arith) l.invariant
