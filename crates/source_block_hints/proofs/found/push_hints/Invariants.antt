use Rattle.std.proofs.Common.{◌≡◌, ◌++◌, map, take}
use Rattle.source_block_hints.specs.Blocks.{hint_on}
use Rattle.source_block_hints.proofs.found.push_hints.Given as goal

abbrev pub invariant-loop-one : goal.invariant-loop-one
invariant-loop-one l = l.hints.items ≡ l.fn.hints.items ++ map (hint_on l.item) (take l.one-index l.found)
