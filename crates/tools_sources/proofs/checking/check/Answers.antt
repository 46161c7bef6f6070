use Rattle.std.proofs.Common.{◌≤◌, ◌<◌, List, ℕ, arith, length, subst}
use Rattle.tools_sources.specs.Sources.{with_last_newline}
use Rattle.tools_sources.proofs.Refusing.{IsCheckedTo, checked_to_next, checked_to_start, checked_too_long, checked_too_many, texts_single}
use Rattle.tools_sources.proofs.checking.check.Goals as goal

pub loop-text-init : goal.loop-text-init
loop-text-init c =
    let source = c.args.source.now in
    let start = checked_to_start source _ _ (texts_single c.blocks_are_single.ensures c.each_has_cut.ensures source)
    c.blocks-cut.ensures.cut c.blocks-cut.ensures.preface c.blocks-cut.ensures.blocks in
    rw c.preface-offset.ensures start

pub loop-text-preserved : goal.loop-text-preserved
loop-text-preserved c =
    let source = c.args.source.now in
    let now = subst (λ (rest : List (List ℕ)). IsCheckedTo source c.loop-text.offset c.loop-text.count rest) c.in-Some.ensures.steps.0 c.loop-text.invariant in
    let short : length (with_last_newline c.in-Some.text.now) ≤ 1048576 = omega (arith, c.ended_len.ensures) in
    checked_to_next c.lines_add.ensures source _ _ c.in-Some.text.now _ now short (omega arith)

pub returns-then-ended_len-gt-BLOCK_BYTES_MAX-clause-refused : goal.returns-then-ended_len-gt-BLOCK_BYTES_MAX-clause-refused
returns-then-ended_len-gt-BLOCK_BYTES_MAX-clause-refused c =
    let source = c.args.source.now in
    let now = subst (λ (rest : List (List ℕ)). IsCheckedTo source c.loop-text.offset c.loop-text.count rest) c.in-Some.ensures.steps.0 c.loop-text.invariant in
    let long : 1048576 < length (with_last_newline c.in-Some.text.now) = omega (arith, c.ended_len.ensures) in
    checked_too_long source c.loop-text.offset c.loop-text.count c.in-Some.text.now _ _ now (λ short. omega (arith, short, long)) c.line_at.ensures

pub returns-then-count-ge-BLOCKS_MAX-clause-refused : goal.returns-then-count-ge-BLOCKS_MAX-clause-refused
returns-then-count-ge-BLOCKS_MAX-clause-refused c =
    let source = c.args.source.now in
    let now = subst (λ (rest : List (List ℕ)). IsCheckedTo source c.loop-text.offset c.loop-text.count rest) c.in-Some.ensures.steps.0 c.loop-text.invariant in
    let short : length (with_last_newline c.in-Some.text.now) ≤ 1048576 = omega (arith, c.ended_len.ensures) in
    checked_too_many source c.loop-text.offset c.loop-text.count c.in-Some.text.now _ _ now short (omega arith) c.line_at-then-count-ge-BLOCKS_MAX.ensures
