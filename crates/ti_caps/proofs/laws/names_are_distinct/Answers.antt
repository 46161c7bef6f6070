-- the names are in order in the table by name, each once
use Rattle.ti_caps.proofs.Table.{distinct_names}
use Rattle.ti_caps.proofs.laws.names_are_distinct.Goals as goal

pub returns : goal.returns
returns c = distinct_names
