use Rattle.std.proofs.Common.{◌≡◌, map, take}
use Rattle.serde_json.specs.View.{view}
use Rattle.source_document.specs.Diagnostics.{diagnostic_seen}
use Rattle.server_answers.specs.Shown.{shown_data}
use Rattle.server_answers.proofs.showing.values_of.Given as goal

-- the values so far
abbrev pub invariant-loop-shown : goal.invariant-loop-shown
invariant-loop-shown l =
    map view l.values.items ≡ map (λ d. shown_data (diagnostic_seen d)) (take l.shown-index l.all)
