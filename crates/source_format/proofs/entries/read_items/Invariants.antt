use Rattle.std.proofs.Common.{◌≡◌, ◌++◌, length, map}
use Rattle.ti_source.specs.Items.{piece_of}
use Rattle.ti_source.specs.Walking.{block_items}
use Rattle.source_format.specs.inside.Steps.{all_ended, entry_seen}
use Rattle.source_format.proofs.entries.read_items.Given as goal

-- the items so far, and those that are left, are those of the block
abbrev pub invariant-loop-entries : goal.invariant-loop-entries
invariant-loop-entries l = map entry_seen l.entries.items ++ all_ended (map piece_of l.walk) ≡ all_ended (map piece_of (block_items l.fn.block))

abbrev pub decreases-loop-entries : goal.decreases-loop-entries
decreases-loop-entries l = length l.walk
