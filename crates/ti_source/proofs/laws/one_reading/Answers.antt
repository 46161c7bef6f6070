use Rattle.ti_source.proofs.ReadingLaws.{has_reading, one_reading}
use Rattle.ti_source.proofs.laws.one_reading.Goals as goal

pub returns-clause-each : goal.returns-clause-each
returns-clause-each c = has_reading

pub returns-clause-only : goal.returns-clause-only
returns-clause-only c = one_reading
