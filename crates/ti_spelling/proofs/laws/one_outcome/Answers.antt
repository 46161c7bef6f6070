use Rattle.ti_spelling.proofs.SpellingLaws.{one_outcome}
use Rattle.ti_spelling.proofs.ValueLaws.{values_are_sound}
use Rattle.ti_spelling.proofs.laws.one_outcome.Goals as goal

pub returns-clause-outcome : goal.returns-clause-outcome
returns-clause-outcome c = one_outcome

pub returns-clause-values : goal.returns-clause-values
returns-clause-values c = values_are_sound
