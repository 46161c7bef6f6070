use Rattle.std.proofs.Common.{◌≡◌, map, take}
use Rattle.serde_json.specs.View.{view}
use Rattle.lsp_values.specs.Shapes.{location_data}
use Rattle.server_answers.proofs.answering.location_values.Given as goal

-- the values so far
abbrev pub invariant-loop-range : goal.invariant-loop-range
invariant-loop-range l =
    map view l.values.items ≡ map (location_data l.uri) (take l.range-index l.ranges)
