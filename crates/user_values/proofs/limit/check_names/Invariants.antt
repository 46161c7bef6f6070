use Rattle.std.proofs.Common.{[], map, take}
use Rattle.user_items.specs.Reading.{user_reading_of}
use Rattle.user_values.specs.Limit.{distinct_after, names_in}
use Rattle.user_values.specs.inside.Counting.{AreFound}
use Rattle.user_values.proofs.limit.check_names.Given as goal

abbrev pub invariant-loop-at : goal.invariant-loop-at
invariant-loop-at l = AreFound (distinct_after [] (names_in (map user_reading_of (take l.at l.reads)))) l.found
