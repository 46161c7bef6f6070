use Rattle.source_places.proofs.Columns.{found_columns, one_offset}
use Rattle.source_places.proofs.lines.columns_have_one_offset.Goals as goal

pub returns-clause-found : goal.returns-clause-found
returns-clause-found c = found_columns

pub returns-clause-one : goal.returns-clause-one
returns-clause-one c = one_offset
