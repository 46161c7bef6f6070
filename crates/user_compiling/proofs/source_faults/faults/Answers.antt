use Rattle.std.proofs.Common.{map, List, sym, subst}
use Rattle.user_compiling.specs.Entries.{state_seen}
use Rattle.user_compiling.specs.Findings.{AreFindingsBy}
use Rattle.user_compiling.specs.declared.finding.Finding.{Finding}
use Rattle.user_compiling.proofs.source_faults.faults.Goals as goal

pub returns-clause-all : goal.returns-clause-all
returns-clause-all c =
    let db = c.args.database.now.texts in
    let states = map state_seen c.args.compiled.now in
    c.in_ok-all.ensures.all states
    (subst (λ (fs : List Finding). AreFindingsBy db states fs) (sym c.deref.ensures.value) c.in_ok-findings.ensures.findings)
