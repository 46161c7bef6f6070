use Rattle.user_kept.proofs.entry.state_at.Goals as goal

pub returns-in-Some-clause-state : goal.returns-in-Some-clause-state
returns-in-Some-clause-state c = λ text stands. c.in_ok-state.ensures c.in-Some.state c.in-Some.is text stands
