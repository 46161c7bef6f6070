-- the indexes of the lists have each code but one at its place
use Rattle.ti_names.proofs.ByCode.{every_code}
use Rattle.ti_names.proofs.laws.every_code_is_found.Goals as goal

pub returns : goal.returns
returns c = every_code
