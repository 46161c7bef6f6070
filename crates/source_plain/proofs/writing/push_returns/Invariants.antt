use Rattle.std.proofs.Common.{◌≡◌, ◌++◌, drop}
use Rattle.source_plain.specs.Writing.{with_returns}
use Rattle.source_plain.proofs.writing.push_returns.Given as goal

-- what was written and what the rest is written as
abbrev pub invariant-loop-byte : goal.invariant-loop-byte
invariant-loop-byte l = l.out.items ++ with_returns (drop l.byte-index l.text) ≡ l.initial.out.items ++ with_returns l.text
