use Rattle.std.proofs.Common.{◌≡◌, map, take}
use Rattle.serde_json.specs.View.{view}
use Rattle.lsp_values.specs.Shapes.{highlight_data}
use Rattle.server_answers.proofs.answering.highlight_values.Given as goal

-- the values so far
abbrev pub invariant-loop-range : goal.invariant-loop-range
invariant-loop-range l =
    map view l.values.items ≡ map highlight_data (take l.range-index l.ranges)
