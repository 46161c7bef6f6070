use Rattle.base_plan.proofs.faults.add_use_fault.Given as goal

abbrev pub ghost-used_table : goal.ghost-used_table
ghost-used_table g a = g.at
