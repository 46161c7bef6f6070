use Rattle.std.proofs.Common.{◌≡◌, drop}
use Rattle.source_hints.specs.FileForms.{signs}
use Rattle.source_hints.proofs.file_form.signs.Given as goal

abbrev pub invariant-loop-at : goal.invariant-loop-at
invariant-loop-at l = signs (drop l.at l.text) ≡ signs l.text
