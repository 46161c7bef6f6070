use Rattle.std.proofs.Common.{◌≡◌, drop}
use Rattle.source_plain.specs.Writing.{first_returns}
use Rattle.source_plain.proofs.writing.first_returns.Given as goal

-- the rest decides
abbrev pub invariant-loop-at : goal.invariant-loop-at
invariant-loop-at l = first_returns (drop l.at l.text) ≡ first_returns l.text
