use Rattle.std.proofs.Common.{◌≡◌, map, take}
use Rattle.serde_json.specs.View.{view}
use Rattle.source_document.specs.Diagnostics.{diagnostic_seen}
use Rattle.server_answers.specs.Shown.{shown_data}
use Rattle.server_answers.proofs.fixing.resolved_values.Given as goal

abbrev pub invariant-loop-shown : goal.invariant-loop-shown
invariant-loop-shown l = map view l.values.items ≡ map shown_data (map (λ d. diagnostic_seen d.now) (take l.shown-index l.all))
