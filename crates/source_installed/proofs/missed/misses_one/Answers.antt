use Rattle.std.proofs.Common.{◌∙◌, ℕ, Global, List, String, rules, tests}
use Rattle.std.proofs.lemmas.Iterator.{YieldsList-from_slice}
use Rattle.std.proofs.lemmas.Iterator.Search.{any_from_yields_List}
use Rattle.std.specs.String.{string_bytes}
use Rattle.source_diagnostics.specs.Diagnostics.{diagnostic_seen}
use Rattle.source_installed.proofs.Found.{any_seen}
use Rattle.source_installed.specs.Missed.{misses}
use Rattle.source_installed.proofs.missed.misses_one.Goals as goal

pub returns : goal.returns
returns c =
    let shown = diagnostic_seen c.args.shown.now in
    any_from_yields_List (λ (m : String Global). misses (string_bytes m) shown) _ _ _ c.any.ensures.ran (YieldsList-from_slice c.args.messages.now cc)
    (λ x b q k. search (rules, tests))
    ∙ any_seen (λ (m : List ℕ). misses m shown) string_bytes c.args.messages.now
