use Rattle.std.proofs.Common.{◌≡◌, map, take}
use Rattle.std.specs.String.{string_bytes}
use Rattle.serde_json.specs.View.{view}
use Rattle.server_answers.specs.Answers.{entry_item}
use Rattle.server_answers.proofs.answering.name_items.Given as goal

-- the items so far
abbrev pub invariant-loop-name : goal.invariant-loop-name
invariant-loop-name l =
    map view l.items.items ≡ map (entry_item l.range) (map string_bytes (take l.name-index l.names))
