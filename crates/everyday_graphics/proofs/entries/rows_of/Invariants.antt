use Rattle.std.proofs.Common.{◌≡◌, List, take}
use Rattle.user_extension.specs.Laws.{as_read}
use Rattle.user_extension.specs.UserDefined.{Row, rows_of}
use Rattle.user_extension.specs.View.{read_rows}
use Rattle.everyday_graphics.proofs.entries.rows_of.Given as goal

-- the rows so far
abbrev pub invariant-loop-place : goal.invariant-loop-place
invariant-loop-place l = (given : List Row) → read_rows l.extension ≡ as_read given → rows_of l.rows.items ≡ take l.place given
