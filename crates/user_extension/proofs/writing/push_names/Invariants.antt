use Rattle.std.proofs.Common.{◌≡◌, ◌++◌}
use Rattle.user_extension.specs.Extension.{names, table}
use Rattle.user_extension.proofs.Fronts.{front}
use Rattle.user_extension.proofs.writing.push_names.Given as goal

abbrev pub invariant-loop-row : goal.invariant-loop-row
invariant-loop-row l = l.image.items ≡ l.initial.image.items ++ table (names (front l.row-index l.rows))
