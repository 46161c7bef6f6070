use Rattle.user_values.specs.inside.Walking.{DropsUnused}
use Rattle.user_values.proofs.walk.drop_unused.Given as goal

abbrev pub invariant-loop-edge : goal.invariant-loop-edge
invariant-loop-edge l = DropsUnused l.last l.made l.fn.tables.items l.tables.items
