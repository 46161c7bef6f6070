use Rattle.std.proofs.Common.{◌≡◌, ◌++◌}
use Rattle.user_extension.specs.Extension.{flags}
use Rattle.user_extension.proofs.Fronts.{front}
use Rattle.user_extension.proofs.writing.push_flags.Given as goal

abbrev pub invariant-loop-row : goal.invariant-loop-row
invariant-loop-row l = l.image.items ≡ l.initial.image.items ++ flags (front l.row-index l.rows)
