use Rattle.std.proofs.Common.{◌≡◌, ◌++◌}
use Rattle.base_meaning.specs.Owner.{readings}
use Rattle.source_blocks.specs.Deciding.{inherited_below}
use Rattle.source_blocks.proofs.deciding.push_inherited.Given as goal

abbrev pub invariant-loop-index : goal.invariant-loop-index
invariant-loop-index l = l.found.items ≡ l.fn.found.items ++ inherited_below (readings l.database) l.at l.kind l.index
