use Rattle.std.proofs.Common.{◌+◌, ◌++◌, List, drop, map, ap, ◌∙◌, arith}
use Rattle.source_spans.specs.Parts.{part_of}
use Rattle.source_block_hints.specs.Blocks.{hints_after}
use Rattle.source_block_hints.specs.declared.hint.Hint.{Hint}
use Rattle.source_block_hints.proofs.Saying.{hints_next}
use Rattle.source_block_hints.proofs.block.push_items.Goals as goal

pub loop-at-preserved : goal.loop-at-preserved
loop-at-preserved c =
    let text = c.args.text.now in
    let parts = c.args.items.now in
    let l = c.loop-at in
    let said = c.push_item.new.said.items in
    ap (λ (hints : List Hint). hints ++ hints_after said (map (part_of text) (drop (l.at + 1) parts))) c.in_ok-push_item.ensures.hints
    ∙ hints_next text parts l.at (record { start = 0; end = 0 }) l.hints.items _ l.said.items said (omega arith)
    c.in_ok-push_item.ensures.said l.invariant
