use Rattle.std.proofs.Common.{◌≡◌, flat_map, map, take}
use Rattle.source_names.specs.NameEdits.{name_edit_seen, name_edits}
use Rattle.source_names.proofs.name_edits.all_edits.Given as goal

-- those so far
abbrev pub invariant-loop-part : goal.invariant-loop-part
invariant-loop-part l = map name_edit_seen l.edits.items ≡ flat_map (name_edits l.text l.new) (take l.part-index l.parts)
