use Rattle.std.proofs.Common.{ap, map, ◌∙◌}
use Rattle.std.proofs.lemmas.Result.{IfOk-weaker}
use Rattle.lsp_values.specs.Shapes.{location_data}
use Rattle.server_answers.proofs.answering.uses_of.Goals as goal

pub returns : goal.returns
returns c =
    let same = ap (map (location_data c.args.uri.now)) (c.as_slice.ensures.value ∙ c.in_ok-ranges.ensures) in
    IfOk-weaker c.location_values.result _ _ (λ values h. h ∙ same) c.location_values.ensures
