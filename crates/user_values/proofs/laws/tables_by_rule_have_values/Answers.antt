use Rattle.user_values.proofs.Making.{value_of_table}
use Rattle.user_values.proofs.laws.tables_by_rule_have_values.Goals as goal

pub returns : goal.returns
returns c = λ rule texts at text table name stands is. value_of_table rule texts at text table name stands (is text stands)
