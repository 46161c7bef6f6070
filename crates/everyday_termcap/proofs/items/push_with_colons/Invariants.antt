use Rattle.std.proofs.Common.{◌≡◌, ◌++◌, drop}
use Rattle.everyday_termcap.specs.Items.{with_colons}
use Rattle.everyday_termcap.proofs.items.push_with_colons.Given as goal

-- what was written, and what is to be written of the rest
abbrev pub invariant-loop-byte : goal.invariant-loop-byte
invariant-loop-byte l = l.out.items ++ with_colons (drop l.byte-index l.text) ≡ l.initial.out.items ++ with_colons l.text
