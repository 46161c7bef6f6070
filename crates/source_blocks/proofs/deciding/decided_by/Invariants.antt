use Rattle.std.proofs.Common.{◌≡◌, ◌++◌, drop}
use Rattle.source_blocks.specs.Deciding.{decided_by}
use Rattle.source_blocks.proofs.deciding.decided_by.Given as goal

abbrev pub invariant-loop-one : goal.invariant-loop-one
invariant-loop-one l = l.found.items ++ decided_by l.by (drop l.one-index l.inherited) ≡ decided_by l.by l.inherited
