use Rattle.base_plan.proofs.tables.make_table.Given as goal

abbrev pub ghost-leftmost_table : goal.ghost-leftmost_table
ghost-leftmost_table g a = g.at

abbrev pub ghost-own_first_table : goal.ghost-own_first_table
ghost-own_first_table g a = g.at
