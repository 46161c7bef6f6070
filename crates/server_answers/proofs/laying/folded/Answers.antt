use Rattle.std.proofs.Common.{ap, map, ◌∙◌}
use Rattle.std.proofs.lemmas.Result.{IfOk-weaker}
use Rattle.source_format.specs.Folds.{folds_of}
use Rattle.server_answers.specs.Laying.{fold_data}
use Rattle.server_answers.proofs.laying.folded.Goals as goal

pub returns : goal.returns
returns c =
    let same = ap (map fold_data) (c.as_slice.ensures.value ∙ c.in_ok-all.ensures ∙ ap folds_of c.text.ensures) in
    IfOk-weaker c.fold_values.result _ _ (λ values h. h ∙ same) c.fold_values.ensures
