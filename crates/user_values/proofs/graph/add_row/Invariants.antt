use Rattle.std.proofs.Common.{◌≡◌, ◌++◌, ◌∷◌, [], map, take}
use Rattle.user_items.specs.Reading.{user_item_of}
use Rattle.user_values.specs.Uses.{row_of}
use Rattle.user_values.proofs.graph.add_row.Given as goal

abbrev pub invariant-loop-item : goal.invariant-loop-item
invariant-loop-item l = l.uses ≡ l.fn.uses ++ row_of l.database.texts (map user_item_of (take l.item-index l.items)) ∷ []
