-- each variable leads back to its capability
use Rattle.ti_names.proofs.ByVariable.{distinct_variables}
use Rattle.ti_names.proofs.laws.variables_are_distinct.Goals as goal

pub returns : goal.returns
returns c = distinct_variables
