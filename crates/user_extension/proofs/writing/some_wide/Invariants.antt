use Rattle.std.proofs.Common.{◌≡◌, false}
use Rattle.user_extension.specs.Extension.{some_wide}
use Rattle.user_extension.proofs.Fronts.{front}
use Rattle.user_extension.proofs.writing.some_wide.Given as goal

abbrev pub invariant-loop-row : goal.invariant-loop-row
invariant-loop-row l = some_wide (front l.row-index l.rows) ≡ false
