use Rattle.std.proofs.Common.{◌++◌, List, drop, map, false}
use Rattle.user_listing.specs.Entries.{Extended}
use Rattle.everyday_entries.specs.declared.failure.Failure.{Failure}
use Rattle.everyday_infocmp.specs.Entries.{AreEntries, IsBadFile, plain_entry}
use Rattle.everyday_infocmp.proofs.entries.plain_entries.Given as goal

-- what the rest of the files are, all are
abbrev pub invariant-loop-file : goal.invariant-loop-file
invariant-loop-file l = record {
  rest : (later : List Extended) → AreEntries false (drop l.file-index l.files) later
      → AreEntries false l.files (map (λ view. plain_entry view) l.views.items ++ later);
  bad : (failure : Failure) → IsBadFile false (drop l.file-index l.files) failure → IsBadFile false l.files failure;
}
