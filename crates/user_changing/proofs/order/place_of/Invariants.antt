use Rattle.user_extension.specs.UserDefined.{row_of}
use Rattle.user_changing.proofs.Ordered.{ComeBefore}
use Rattle.user_changing.proofs.order.place_of.Given as goal

abbrev pub invariant-loop-at : goal.invariant-loop-at
invariant-loop-at l = ComeBefore l.rows l.at (row_of l.row)
