use Rattle.std.proofs.Common.{◌≡◌, ◌++◌, flat_map, length}
use Rattle.source_kept_lines.specs.Layout.{repaired_block, repaired_text}
use Rattle.source_kept_lines.proofs.repairing.repaired.Given as goal

-- what is written so far, and of the blocks that are left, is what is written of all
abbrev pub invariant-loop-block : goal.invariant-loop-block
invariant-loop-block l = l.out.items ++ flat_map (repaired_block l.width) l.cut.blocks ≡ repaired_text l.width l.fn.source

abbrev pub decreases-loop-block : goal.decreases-loop-block
decreases-loop-block l = length l.cut.blocks
