use Rattle.std.proofs.Common.{◌≡◌, map, take}
use Rattle.serde_json.specs.View.{view}
use Rattle.source_remarks.specs.Remarks.{remark_seen}
use Rattle.server_answers.specs.Shown.{remark_data}
use Rattle.server_answers.proofs.showing.remark_values.Given as goal

abbrev pub invariant-loop-remark : goal.invariant-loop-remark
invariant-loop-remark l = map view l.values.items ≡ map (λ r. remark_data (remark_seen r)) (take l.remark-index l.all)
