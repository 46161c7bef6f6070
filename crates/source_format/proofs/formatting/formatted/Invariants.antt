use Rattle.std.proofs.Common.{◌≡◌, ◌++◌, flat_map, length}
use Rattle.source_format.specs.Layout.{block_text, formatted_text}
use Rattle.source_format.proofs.formatting.formatted.Given as goal

-- what is written so far, and of the blocks that are left, is what is written of all
abbrev pub invariant-loop-block : goal.invariant-loop-block
invariant-loop-block l = l.out.items ++ flat_map (block_text l.width) l.cut.blocks ≡ formatted_text l.width l.fn.source

abbrev pub decreases-loop-block : goal.decreases-loop-block
decreases-loop-block l = length l.cut.blocks
