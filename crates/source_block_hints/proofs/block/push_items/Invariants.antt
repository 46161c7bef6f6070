use Rattle.std.proofs.Common.{◌≡◌, ◌++◌, [], drop, map}
use Rattle.source_spans.specs.Parts.{part_of}
use Rattle.source_block_hints.specs.Blocks.{hints_after}
use Rattle.source_block_hints.proofs.block.push_items.Given as goal

-- with the hints of the items that are left, these are all
abbrev pub invariant-loop-at : goal.invariant-loop-at
invariant-loop-at l =
    l.hints.items ++ hints_after l.said.items (map (part_of l.text) (drop l.at l.items))
    ≡ l.fn.hints.items ++ hints_after [] (map (part_of l.text) l.items)
