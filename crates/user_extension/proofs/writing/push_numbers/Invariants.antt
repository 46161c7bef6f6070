use Rattle.std.proofs.Common.{◌≡◌, ◌++◌}
use Rattle.ti_layout.specs.Layout.{number_section}
use Rattle.user_extension.specs.Extension.{numbers}
use Rattle.user_extension.proofs.Fronts.{front}
use Rattle.user_extension.proofs.writing.push_numbers.Given as goal

abbrev pub invariant-loop-row : goal.invariant-loop-row
invariant-loop-row l = l.image.items ≡ l.initial.image.items ++ number_section l.format (numbers (front l.row-index l.rows))
