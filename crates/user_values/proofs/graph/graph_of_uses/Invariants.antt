use Rattle.std.proofs.Common.{◌≡◌, map, take}
use Rattle.user_items.specs.Reading.{user_reading_of}
use Rattle.user_values.specs.Uses.{rows_of}
use Rattle.user_values.proofs.graph.graph_of_uses.Given as goal

abbrev pub invariant-loop-read : goal.invariant-loop-read
invariant-loop-read l = l.uses ≡ rows_of l.database.texts (map user_reading_of (take l.read-index l.reads))
