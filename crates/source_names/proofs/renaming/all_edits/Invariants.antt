use Rattle.std.proofs.Common.{◌≡◌, ◌≤◌, ◌+◌, ◌*◌, ◌^◌, ◌++◌, drop, map}
use Rattle.source_names.specs.NameEdits.{rename_seen}
use Rattle.source_names.specs.Renaming.{can_be_renamed, edits_from, rename_edit_seen}
use Rattle.source_names.proofs.renaming.all_edits.Given as goal

-- each so far can be put in its place, and they are there
abbrev pub invariant-loop-at : goal.invariant-loop-at
invariant-loop-at l = record {
  can : can_be_renamed (rename_seen l.rename) l.at (drop l.at l.database) ≡ can_be_renamed (rename_seen l.rename) 0 l.database;
  so : map rename_edit_seen l.edits.items ++ edits_from (rename_seen l.rename) l.at l.line (drop l.at l.database)
      ≡ edits_from (rename_seen l.rename) 0 l.first l.database;
  room : l.line ≤ 2 ^ 63 + l.at * 1048576;
}
