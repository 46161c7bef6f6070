use Rattle.std.proofs.Common.{◌≡◌, List, ℕ, ap, map, subst, sym, ◌∙◌}
use Rattle.std.proofs.lemmas.Result.{IfOk-weaker}
use Rattle.user_compiling.specs.Faults.{fault_seen}
use Rattle.source_diagnostics.specs.SourceFaults.{faults_by, user_faults}
use Rattle.source_diagnostics.specs.declared.capabilities.Capabilities.{Capabilities}
use Rattle.source_diagnostics.specs.declared.capabilities.Capabilities.TheVariants.{UserDefined}
use Rattle.source_diagnostics.specs.inside.Marked.{AreMarked}
use Rattle.source_diagnostics.proofs.faults.mark_kept_faults.Goals as goal

pub returns-clause-marked : goal.returns-clause-marked
returns-clause-marked c =
    let texts = c.args.database.now in
    let there = c.database.result.now in
    let same : there ≡ texts = c.database.ensures ∙ c.in_ok-faults.ensures.same in
    IfOk-weaker c.mark.result
    (λ marked. (capabilities : Capabilities) → map fault_seen c.in_ok-faults.faults.items ≡ faults_by capabilities there
    → AreMarked capabilities there (map fault_seen marked.faults.items) marked.marks.items)
    (λ marked. AreMarked UserDefined texts (map fault_seen marked.faults.items) marked.marks.items)
    (λ marked h. subst (λ (ts : List (List ℕ)). AreMarked UserDefined ts (map fault_seen marked.faults.items) marked.marks.items) same
    (h UserDefined (c.in_ok-faults.ensures.all ∙ ap user_faults (sym same)))) c.mark.ensures
