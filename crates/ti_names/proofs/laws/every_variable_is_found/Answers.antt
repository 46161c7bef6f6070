-- the indexes of the lists have each variable once
use Rattle.ti_names.proofs.ByVariable.{every_variable}
use Rattle.ti_names.proofs.laws.every_variable_is_found.Goals as goal

pub returns : goal.returns
returns c = every_variable
