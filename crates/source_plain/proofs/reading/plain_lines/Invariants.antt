use Rattle.std.proofs.Common.{◌≡◌, ◌++◌, drop}
use Rattle.source_plain.specs.Reading.{plain_lines}
use Rattle.source_plain.proofs.reading.plain_lines.Given as goal

-- what was read and what the rest is read as
abbrev pub invariant-loop-at : goal.invariant-loop-at
invariant-loop-at l = l.plain.items ++ plain_lines (drop l.at l.text) ≡ plain_lines l.text
