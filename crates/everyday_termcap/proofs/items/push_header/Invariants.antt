use Rattle.std.proofs.Common.{◌≡◌, ◌++◌, drop}
use Rattle.everyday_termcap.specs.Items.{header}
use Rattle.everyday_termcap.proofs.items.push_header.Given as goal

-- what was written, and what is to be written of the rest
abbrev pub invariant-loop-byte : goal.invariant-loop-byte
invariant-loop-byte l = l.out.items ++ header (drop l.byte-index l.names) ≡ l.initial.out.items ++ header l.names
