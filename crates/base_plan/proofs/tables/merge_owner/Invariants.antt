use Rattle.base_plan.proofs.tables.merge_owner.Given as goal

abbrev pub ghost-used_table : goal.ghost-used_table
ghost-used_table g a = g.at
