use Rattle.std.proofs.Common.{◌≡◌, ◌≤◌, ℕ, List, drop, length}
use Rattle.user_extension.specs.UserDefined.{AreUserDefined, rows_of}
use Rattle.user_extension.specs.Laws.{as_read}
use Rattle.user_extension.specs.Reading.{said}
use Rattle.user_extension.specs.View.{read_rows}
use Rattle.user_changing.proofs.rows.held.Given as goal

-- the rows say what those from the last one taken on say
abbrev pub invariant-loop-left : goal.invariant-loop-left
invariant-loop-left l = record {
  within : l.left ≤ length (read_rows l.extension);
  are : AreUserDefined (rows_of l.rows.items);
  said : (name : List ℕ) → said (as_read (rows_of l.rows.items)) name ≡ said (drop l.left (read_rows l.extension)) name;
}

abbrev pub decreases-loop-left : goal.decreases-loop-left
decreases-loop-left l = l.left
