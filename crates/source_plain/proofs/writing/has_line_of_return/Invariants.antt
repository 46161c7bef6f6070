use Rattle.std.proofs.Common.{◌≡◌, drop}
use Rattle.source_plain.specs.Writing.{has_return}
use Rattle.source_plain.proofs.writing.has_line_of_return.Given as goal

-- the rest decides
abbrev pub invariant-loop-at : goal.invariant-loop-at
invariant-loop-at l = has_return (drop l.at l.text) ≡ has_return l.text
