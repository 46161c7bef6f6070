use Rattle.std.proofs.Common.{◌≡◌, ◌++◌, drop, take}
use Rattle.source_places.specs.LineTexts.{until_end}
use Rattle.source_places.proofs.lines.first_of.Given as goal

abbrev pub invariant-loop-at : goal.invariant-loop-at
invariant-loop-at l = take l.at l.text ++ until_end (drop l.at l.text) ≡ until_end l.text
