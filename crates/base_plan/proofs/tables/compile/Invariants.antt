use Rattle.base_plan.proofs.tables.compile.Given as goal

abbrev pub ghost-make_table : goal.ghost-make_table
ghost-make_table g a = g.at
