use Rattle.std.proofs.Common.{◌≡◌, ◌++◌, drop}
use Rattle.everyday_initializers.specs.Initializers.{spelling}
use Rattle.everyday_initializers.proofs.lines.push_spelling.Given as goal

-- what was written, and what is to be written of the rest
abbrev pub invariant-loop-byte : goal.invariant-loop-byte
invariant-loop-byte l = l.out.items ++ spelling (drop l.byte-index l.text) ≡ l.initial.out.items ++ spelling l.text
