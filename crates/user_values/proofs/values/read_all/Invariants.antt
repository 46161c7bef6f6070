use Rattle.std.proofs.Common.{◌≡◌, map, take}
use Rattle.user_items.specs.Reading.{user_reading_of}
use Rattle.user_items.specs.Parsing.{user_reading_of_text}
use Rattle.user_values.proofs.values.read_all.Given as goal

abbrev pub invariant-loop-at : goal.invariant-loop-at
invariant-loop-at l = map user_reading_of l.reads.items ≡ map user_reading_of_text (take l.at l.database.texts)
