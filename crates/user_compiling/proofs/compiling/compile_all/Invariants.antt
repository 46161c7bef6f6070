use Rattle.std.proofs.Common.{◌≡◌, length, drop}
use Rattle.user_values.specs.Walking.{IsOrderOf}
use Rattle.user_compiling.proofs.OneByOne.{AreFoundBefore}
use Rattle.user_compiling.proofs.compiling.compile_all.Given as goal

abbrev pub invariant-loop-all : goal.invariant-loop-all
invariant-loop-all l =
    (l.tables.rule ≡ l.database.rule) × (l.tables.texts ≡ l.database.texts) × IsOrderOf l.database.texts l.tables.order
    × AreFoundBefore l.database.rule l.database.texts l.tables.order l.all.items l.tables.made

abbrev pub decreases-loop-all : goal.decreases-loop-all
decreases-loop-all l = length (drop l.tables.made l.tables.order)
