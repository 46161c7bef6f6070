use Rattle.std.proofs.Common.{ap, map, ◌∙◌}
use Rattle.std.proofs.lemmas.Result.{IfOk-weaker}
use Rattle.lsp_values.specs.Shapes.{highlight_data}
use Rattle.server_answers.proofs.answering.highlighted.Goals as goal

pub returns : goal.returns
returns c =
    let same = ap (map highlight_data) (c.as_slice.ensures.value ∙ c.in_ok-ranges.ensures) in
    IfOk-weaker c.highlight_values.result _ _ (λ values h. h ∙ same) c.highlight_values.ensures
