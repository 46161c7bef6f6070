use Rattle.source_kept_lines.proofs.Whole.{is_settled, keeps_reading, lines_fit}
use Rattle.source_kept_lines.proofs.laws.repairing_is_faithful.Goals as goal

pub returns-clause-alike : goal.returns-clause-alike
returns-clause-alike c = keeps_reading

pub returns-clause-fits : goal.returns-clause-fits
returns-clause-fits c = lines_fit

pub returns-clause-settled : goal.returns-clause-settled
returns-clause-settled c = is_settled
