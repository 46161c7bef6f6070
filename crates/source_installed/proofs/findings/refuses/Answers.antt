use Rattle.std.proofs.Common.{◌∙◌, rules, tests}
use Rattle.std.proofs.lemmas.Iterator.{YieldsList-from_slice}
use Rattle.std.proofs.lemmas.Iterator.Search.{any_from_yields_List}
use Rattle.source_diagnostics.specs.Diagnostics.{Shown, diagnostic_seen}
use Rattle.source_diagnostics.specs.declared.diagnostics.Diagnostic.{Diagnostic}
use Rattle.source_installed.proofs.Found.{any_seen}
use Rattle.source_installed.specs.Findings.{is_refusal}
use Rattle.source_installed.proofs.findings.refuses.Goals as goal

pub returns : goal.returns
returns c =
    any_from_yields_List (λ (d : Diagnostic). is_refusal d.problem) _ _ _ c.any.ensures.ran (YieldsList-from_slice c.args.all.now cc)
    (λ x b q k. search (rules, tests))
    ∙ any_seen (λ (d : Shown). is_refusal d.problem) diagnostic_seen c.args.all.now
