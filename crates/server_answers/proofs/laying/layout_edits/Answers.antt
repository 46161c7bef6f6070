use Rattle.std.proofs.Common.{ap, ◌∙◌}
use Rattle.std.proofs.lemmas.Result.{IfOk-weaker}
use Rattle.server_answers.specs.Laying.{edits_of}
use Rattle.server_answers.proofs.laying.layout_edits.Goals as goal

pub returns : goal.returns
returns c = IfOk-weaker c.edits_of.result _ _ (λ values h. h ∙ ap edits_of c.in_ok-edit.ensures) c.edits_of.ensures
