use Rattle.std.proofs.Common.{◌≡◌, ◌++◌, List, length, map, drop, All}
use Rattle.base_meaning.specs.Readings.{readings_by}
use Rattle.base_meaning.specs.Usable.{IsPlaced}
use Rattle.base_meaning.specs.Faults.{fault_seen as profile_fault_seen, faults_after}
use Rattle.base_meaning.specs.Compiled.{EntryState}
use Rattle.user_compiling.specs.Findings.{AreFindingsBy}
use Rattle.user_compiling.specs.Faults.{fault_seen, extended_faults_by, extended_faults_after}
use Rattle.user_compiling.specs.Report.{IsExtendedPlaced}
use Rattle.user_compiling.proofs.source_faults.extend_all.Given as goal

-- the faults of the profile that are left are those of the blocks that are left; what was added and
-- what is to be added are all
abbrev pub invariant-loop-at : goal.invariant-loop-at
invariant-loop-at l = record {
  left : map profile_fault_seen l.rest ≡ faults_after (readings_by l.database.rule l.database.texts) l.at (drop l.at (readings_by l.database.rule l.database.texts));
  left_placed : All (IsPlaced (length l.database.texts)) (map profile_fault_seen l.rest);
  all : (states : List EntryState) → AreFindingsBy l.database.texts states l.findings
      → map fault_seen l.all.items ++ extended_faults_after (readings_by l.database.rule l.database.texts) l.at (drop l.at l.database.texts) (drop l.at states)
      ≡ extended_faults_by l.database.rule l.database.texts states;
  placed : All (IsExtendedPlaced (length l.database.texts)) (map fault_seen l.all.items);
}
