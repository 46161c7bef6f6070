use Rattle.std.proofs.Common.{◌≡◌, take}
use Rattle.user_extension.specs.View.{read_rows}
use Rattle.everyday_toe.specs.Sums.{extension_added}
use Rattle.everyday_toe.proofs.sums.add_extension.Given as goal

-- the total of the rows before
abbrev pub invariant-loop-place : goal.invariant-loop-place
invariant-loop-place l = l.sum ≡ extension_added l.total (take l.place (read_rows l.extension))
