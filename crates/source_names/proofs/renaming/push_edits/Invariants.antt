use Rattle.std.proofs.Common.{◌≡◌, ◌++◌, drop, map}
use Rattle.std.specs.List.{list_all}
use Rattle.source_names.specs.NameEdits.{can_be_put, name_edit_seen}
use Rattle.source_names.specs.Renaming.{placed_edit, rename_edit_seen}
use Rattle.source_names.proofs.renaming.push_edits.Given as goal

-- each so far can be put in its place, and they are there
abbrev pub invariant-loop-edit : goal.invariant-loop-edit
invariant-loop-edit l = record {
  all : list_all (can_be_put l.block) (map name_edit_seen (drop l.edit-index l.found)) ≡ list_all (can_be_put l.block) (map name_edit_seen l.found);
  so : map rename_edit_seen l.edits.items ++ map (placed_edit l.line l.block) (map name_edit_seen (drop l.edit-index l.found))
      ≡ map rename_edit_seen l.fn.edits.items ++ map (placed_edit l.line l.block) (map name_edit_seen l.found);
}
