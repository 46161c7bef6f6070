use Rattle.std.proofs.Common.{◌≡◌, take}
use Rattle.user_extension.specs.UserDefined.{rows_of}
use Rattle.user_extension.specs.View.{read_rows}
use Rattle.everyday_constants.specs.Entries.{present_rows}
use Rattle.everyday_constants.proofs.entries.present.Given as goal

-- those of the rows so far
abbrev pub invariant-loop-place : goal.invariant-loop-place
invariant-loop-place l = rows_of l.rows.items ≡ present_rows (take l.place (read_rows l.extension))
