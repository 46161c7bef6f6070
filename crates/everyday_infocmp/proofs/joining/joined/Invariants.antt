use Rattle.std.proofs.Common.{◌≡◌, ◌++◌}
use Rattle.everyday_infocmp.specs.Joining.{bytes_from, joined}
use Rattle.everyday_infocmp.proofs.joining.joined.Given as goal

-- what was written, and what is to be written of the rest
abbrev pub invariant-loop-at : goal.invariant-loop-at
invariant-loop-at l = l.out.items ++ bytes_from l.text l.at ≡ joined l.text
