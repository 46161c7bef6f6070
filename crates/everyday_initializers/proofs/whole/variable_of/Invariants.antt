use Rattle.std.proofs.Common.{◌≡◌, ◌++◌, drop, map}
use Rattle.everyday_initializers.specs.Initializers.{in_name}
use Rattle.everyday_initializers.proofs.whole.variable_of.Given as goal

-- what was written, and what is to be written of the rest
abbrev pub invariant-loop-byte : goal.invariant-loop-byte
invariant-loop-byte l = l.front.items ++ map in_name (drop l.byte-index l.name) ≡ map in_name l.name
