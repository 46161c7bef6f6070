use Rattle.source_places.proofs.LineStarts.{found_lines, one_start, past_lines}
use Rattle.source_places.proofs.lines.lines_have_one_start.Goals as goal

pub returns-clause-found : goal.returns-clause-found
returns-clause-found c = found_lines

pub returns-clause-other : goal.returns-clause-other
returns-clause-other c = past_lines

pub returns-clause-one : goal.returns-clause-one
returns-clause-one c = one_start
