use Rattle.std.proofs.Common.{◌++◌, List, drop, map, true}
use Rattle.user_listing.specs.Entries.{Extended, extended_seen}
use Rattle.everyday_entries.specs.declared.failure.Failure.{Failure}
use Rattle.everyday_infocmp.specs.Entries.{AreEntries, IsBadFile}
use Rattle.everyday_infocmp.proofs.entries.extended_entries.Given as goal

-- what the rest of the files are, all are
abbrev pub invariant-loop-file : goal.invariant-loop-file
invariant-loop-file l = record {
  rest : (later : List Extended) → AreEntries true (drop l.file-index l.files) later
      → AreEntries true l.files (map (λ e. extended_seen e) l.entries.items ++ later);
  bad : (failure : Failure) → IsBadFile true (drop l.file-index l.files) failure → IsBadFile true l.files failure;
}
