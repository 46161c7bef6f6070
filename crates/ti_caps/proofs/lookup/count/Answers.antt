-- the counts are the lengths of the lists
use Rattle.ti_caps.proofs.Table.{length-names}
use Rattle.ti_caps.proofs.lookup.count.Goals as goal

pub returns-in-Flag-clause-names : goal.returns-in-Flag-clause-names
returns-in-Flag-clause-names c = rw (length-names, c.in-Flag.is)

pub returns-in-Number-clause-names : goal.returns-in-Number-clause-names
returns-in-Number-clause-names c = rw (length-names, c.in-Number.is)

pub returns-in-Text-clause-names : goal.returns-in-Text-clause-names
returns-in-Text-clause-names c = rw (length-names, c.in-Text.is)
