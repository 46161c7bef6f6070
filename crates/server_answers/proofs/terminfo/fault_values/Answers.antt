use Rattle.std.proofs.Common.{◌≡◌, List, ap, map, sym, ◌∙◌, false}
use Rattle.std.proofs.lemmas.Result.{IfOk-weaker}
use Rattle.std.proofs.lemmas.Simd.{map-map}
use Rattle.serde_json.specs.View.{items_of, items_view}
use Rattle.source_document.specs.Diagnostics.{diagnostic_seen}
use Rattle.source_diagnostics.specs.declared.diagnostics.Diagnostic.{Diagnostic}
use Rattle.source_installed.specs.Findings.{Found}
use Rattle.server_answers.specs.Shown.{shown_by, shown_data}
use Rattle.server_answers.proofs.terminfo.fault_values.Goals as goal

pub returns-clause-values : goal.returns-clause-values
returns-clause-values c =
    let same = sym (map-map shown_data diagnostic_seen c.as_slice.result.now)
    ∙ (ap (λ (all : List Diagnostic). map shown_data (map diagnostic_seen all)) c.as_slice.ensures.value
    ∙ ap (λ (found : Found). map shown_data found.faults) c.in_ok-found.ensures.found) in
    IfOk-weaker c.values_of.result _
    (λ values. items_view values.items ≡ shown_by false c.args.capabilities c.args.installed.now c.args.document.now)
    (λ values h. ap items_of (h ∙ same)) c.values_of.ensures
