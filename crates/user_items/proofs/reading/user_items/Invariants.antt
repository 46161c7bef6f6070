use Rattle.std.proofs.Common.{length}
use Rattle.user_items.specs.Reading.{user_reading_of}
use Rattle.user_items.proofs.Readings.{ReadSoFar}
use Rattle.user_items.proofs.reading.user_items.Given as goal

abbrev pub invariant-loop-read : goal.invariant-loop-read
invariant-loop-read l = ReadSoFar l.fn.block l.ordinal l.walk (user_reading_of l.read)

abbrev pub decreases-loop-read : goal.decreases-loop-read
decreases-loop-read l = length l.walk
