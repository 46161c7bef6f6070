use Rattle.std.proofs.Common.{List, ap, ◌∙◌}
use Rattle.std.proofs.lemmas.Result.{IfOk-weaker}
use Rattle.serde_json.proofs.Views.{view-Array}
use Rattle.serde_json.specs.Data.{Data, array}
use Rattle.serde_json.specs.View.{items_of, view}
use Rattle.lsp_values.specs.Shapes.{response_data}
use Rattle.lsp_server.proofs.requests.found_value.Goals as goal

pub returns : goal.returns
returns g c =
    let found = view-Array c.in_ok-values.values ∙ ap (λ (all : List Data). array (items_of all)) c.in_ok-values.ensures in
    let same = ap (response_data (view c.args.id.now)) found in
    IfOk-weaker c.response_value.result _ _ (λ v h. h ∙ same) c.response_value.ensures
