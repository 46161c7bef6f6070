use Rattle.std.proofs.Common.{◌≡◌, map, take}
use Rattle.serde_json.specs.View.{view}
use Rattle.source_names.specs.Renaming.{rename_edit_seen}
use Rattle.server_answers.specs.Answers.{edit_data}
use Rattle.server_answers.proofs.renaming.edit_values.Given as goal

-- the values so far
abbrev pub invariant-loop-edit : goal.invariant-loop-edit
invariant-loop-edit l =
    map view l.values.items ≡ map edit_data (map rename_edit_seen (take l.edit-index l.edits))
