use Rattle.std.proofs.Common.{◌≡◌, ◌++◌, drop, map}
use Rattle.source_names.specs.NameEdits.{dealt, name_edit_seen}
use Rattle.source_names.proofs.name_edits.dealt.Given as goal

-- the edits so far, and those of what is left, are all
abbrev pub invariant-loop-at : goal.invariant-loop-at
invariant-loop-at l = map name_edit_seen l.edits.items ++ dealt (drop l.at l.parts) l.rest ≡ dealt l.parts l.new
