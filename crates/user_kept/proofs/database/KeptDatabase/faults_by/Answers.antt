use Rattle.std.proofs.Common.{◌≡◌, List, ℕ, map, subst, sym}
use Rattle.base_meaning.specs.Compiled.{EntryState}
use Rattle.user_compiling.specs.Faults.{extended_faults, fault_seen}
use Rattle.user_compiling.specs.Findings.{AreFindingsBy}
use Rattle.user_compiling.specs.declared.finding.Finding.{Finding}
use Rattle.user_kept.proofs.Keeping.{states_of_right}
use Rattle.user_kept.proofs.database.KeptDatabase.faults_by.Goals as goal

pub returns-clause-all : goal.returns-clause-all
returns-clause-all c =
    let texts = c.args.self.now in
    let findings = c.args.kept.findings.items in
    let s = states_of_right texts findings c.requires.findings in
    let by : AreFindingsBy texts s.0 c.deref.result.now = subst (λ (fs : List Finding). AreFindingsBy texts s.0 fs) (sym c.deref.ensures.value) s.2 in
    let Found : List (List ℕ) → Type 0 = λ ts. (states : List EntryState) → AreFindingsBy ts states c.deref.result.now
    → map fault_seen c.in_ok-found.found.items ≡ extended_faults ts states in
    let found : Found texts = subst Found c.self.view_is c.in_ok-found.ensures.all in
    (s.0, s.1, found s.0 by)
