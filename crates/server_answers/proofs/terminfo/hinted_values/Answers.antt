use Rattle.std.proofs.Common.{◌≡◌, ap, ap₂, ◌∙◌, true}
use Rattle.std.proofs.lemmas.Result.{IfOk-weaker}
use Rattle.serde_json.specs.View.{items_of, items_view}
use Rattle.source_installed.specs.Findings.{Found}
use Rattle.source_remarks.specs.Hints.{SeenHints, text_hints}
use Rattle.server_answers.specs.Shown.{hinted_data, shown_by}
use Rattle.server_answers.proofs.terminfo.hinted_values.Goals as goal

pub returns-clause-values : goal.returns-clause-values
returns-clause-values c =
    let hints = c.in_ok-hints.ensures ∙ ap (text_hints c.args.capabilities) c.in_ok-found.ensures.text in
    let shown = ap₂ (λ (found : Found) (hints : SeenHints). hinted_data found hints) c.in_ok-found.ensures.found hints in
    IfOk-weaker c.found_values.result _
    (λ values. items_view values.items ≡ shown_by true c.args.capabilities c.args.installed.now c.args.document.now)
    (λ values h. ap items_of (h ∙ shown)) c.found_values.ensures
