use Rattle.tools_sources.proofs.Refusing.{one_refusal, refusals_computed, taken_have_none, taken_not_refused}
use Rattle.tools_sources.proofs.checking.sources_have_one_refusal.Goals as goal

pub returns-clause-one : goal.returns-clause-one
returns-clause-one c = one_refusal

pub returns-clause-taken : goal.returns-clause-taken
returns-clause-taken c = taken_not_refused

pub returns-clause-computed : goal.returns-clause-computed
returns-clause-computed c = refusals_computed

pub returns-clause-none : goal.returns-clause-none
returns-clause-none c = taken_have_none
