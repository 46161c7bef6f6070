use Rattle.std.proofs.Common.{◌≡◌, map, take}
use Rattle.serde_json.specs.View.{view}
use Rattle.server_answers.specs.Laying.{fold_data}
use Rattle.server_answers.proofs.laying.fold_values.Given as goal

abbrev pub invariant-loop-fold : goal.invariant-loop-fold
invariant-loop-fold l = map view l.values.items ≡ map fold_data (take l.fold-index l.all)
