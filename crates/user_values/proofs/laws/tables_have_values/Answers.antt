use Rattle.ti_source.specs.declared.parsing.Rule.TheVariants.{Leftmost}
use Rattle.user_values.proofs.Making.{value_of_table}
use Rattle.user_values.proofs.laws.tables_have_values.Goals as goal

pub returns : goal.returns
returns c = λ texts at text table name stands is. value_of_table Leftmost texts at text table name stands (is text stands)
