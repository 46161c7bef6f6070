use Rattle.std.proofs.Common.{subst}
use Rattle.std.proofs.lemmas.Option.{same_Some}
use Rattle.user_compiling.specs.Entries.{state_seen}
use Rattle.user_compiling.specs.declared.finding.Finding.{Finding}
use Rattle.user_kept.specs.inside.Kept.{IsRightOf}
use Rattle.user_kept.proofs.found.find.Goals as goal

pub returns-in_ok-finding-in-Some : goal.returns-in_ok-finding-in-Some
returns-in_ok-finding-in-Some c = λ finding e text stands.
    subst (λ (f : Finding). IsRightOf c.args.database.now text f) (same_Some c.in_ok-finding-in-Some.finding finding e) (record {
      state = state_seen c.in-Some.state;
      becomes = c.in_ok-state.ensures c.in-Some.state c.in-Some.is text stands;
      by = c.in_ok-finding-in-Some.ensures text stands;
    })
