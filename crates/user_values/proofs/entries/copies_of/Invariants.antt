use Rattle.std.proofs.Common.{◌≡◌, take}
use Rattle.user_values.specs.Tables.{entries_seen}
use Rattle.user_values.proofs.entries.copies_of.Given as goal

abbrev pub invariant-loop-entry : goal.invariant-loop-entry
invariant-loop-entry l = entries_seen l.copies.items ≡ entries_seen (take l.entry-index l.entries)
