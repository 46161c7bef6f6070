use Rattle.std.proofs.Common.{List, ℕ, map, take}
use Rattle.user_items.specs.Reading.{user_item_of}
use Rattle.user_values.specs.Limit.{distinct_after, names_of}
use Rattle.user_values.specs.inside.Counting.{AreFound}
use Rattle.user_values.proofs.limit.find_names.Given as goal

abbrev pub invariant-loop-item : goal.invariant-loop-item
invariant-loop-item l = (names : List (List ℕ)) → AreFound names l.initial.found
    → AreFound (distinct_after names (names_of (map user_item_of (take l.item-index l.items)))) l.found
