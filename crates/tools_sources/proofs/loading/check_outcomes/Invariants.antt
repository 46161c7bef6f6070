use Rattle.std.proofs.Common.{◌≡◌, drop}
use Rattle.tools_sources.specs.inside.Loading.{first_refusal}
use Rattle.tools_sources.proofs.loading.check_outcomes.Given as goal

abbrev pub invariant-loop-outcome : goal.invariant-loop-outcome
invariant-loop-outcome l = first_refusal (drop l.outcome-index l.outcomes) ≡ first_refusal l.outcomes
