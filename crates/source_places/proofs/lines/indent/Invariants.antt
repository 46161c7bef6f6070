use Rattle.std.proofs.Common.{◌≡◌, ◌+◌, drop}
use Rattle.source_places.specs.LineTexts.{indent}
use Rattle.source_places.proofs.lines.indent.Given as goal

abbrev pub invariant-loop-at : goal.invariant-loop-at
invariant-loop-at l = l.at + indent (drop l.at l.line) ≡ indent l.line
