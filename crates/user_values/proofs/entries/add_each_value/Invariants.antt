use Rattle.std.proofs.Common.{take}
use Rattle.user_values.specs.Tables.{NamesRise, entries_seen}
use Rattle.user_values.specs.inside.Entries.{AddsValues, held_seen}
use Rattle.user_values.proofs.entries.add_each_value.Given as goal

abbrev pub invariant-loop-entry : goal.invariant-loop-entry
invariant-loop-entry l = record {
  rise : NamesRise (held_seen l.held);
  added : AddsValues (entries_seen (take l.entry-index l.entries)) (held_seen l.initial.held) (held_seen l.held);
}
