use Rattle.std.proofs.Common.{◌≡◌, ◌++◌, map, take}
use Rattle.source_blocks.specs.Spots.{range_in}
use Rattle.source_names.proofs.names.push_ranges.Given as goal

abbrev pub invariant-loop-part : goal.invariant-loop-part
invariant-loop-part l = l.ranges.items ≡ l.fn.ranges.items ++ map (range_in l.line l.block) (take l.part-index l.parts)
