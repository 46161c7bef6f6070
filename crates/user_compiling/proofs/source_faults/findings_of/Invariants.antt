use Rattle.std.proofs.Common.{◌≡◌, length, map}
use Rattle.user_compiling.specs.Entries.{state_seen}
use Rattle.user_compiling.proofs.Findings.{AreFirst}
use Rattle.user_compiling.proofs.source_faults.findings_of.Given as goal

abbrev pub invariant-loop-at : goal.invariant-loop-at
invariant-loop-at l = record {
  as_many : length l.findings.items ≡ l.at;
  first : AreFirst l.database.texts (map state_seen l.compiled) l.findings.items;
}
