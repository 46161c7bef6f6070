use Rattle.std.proofs.Common.{◌∙◌, rules, tests}
use Rattle.std.proofs.lemmas.Iterator.{YieldsList-from_slice}
use Rattle.std.proofs.lemmas.Iterator.Search.{any_from_yields_List}
use Rattle.source_diagnostics.specs.Diagnostics.{diagnostic_seen}
use Rattle.source_diagnostics.specs.declared.diagnostics.Diagnostic.{Diagnostic}
use Rattle.source_installed.proofs.Found.{any_seen}
use Rattle.source_installed.specs.Missed.{misses}
use Rattle.source_installed.proofs.missed.is_said.Goals as goal

pub returns : goal.returns
returns c =
    any_from_yields_List (λ (d : Diagnostic). misses c.args.message.now (diagnostic_seen d)) _ _ _ c.any.ensures.ran (YieldsList-from_slice c.args.all.now cc)
    (λ x b q k. search (rules, tests))
    ∙ any_seen (misses c.args.message.now) diagnostic_seen c.args.all.now
