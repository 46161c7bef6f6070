-- two capabilities with the same name are equal
use Rattle.ti_caps.proofs.Named.{every_name}
use Rattle.ti_caps.proofs.laws.every_name_is_found.Goals as goal

pub returns : goal.returns
returns c = every_name
