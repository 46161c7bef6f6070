use Rattle.base_plan.proofs.faults.add_item_fault.Given as goal

abbrev pub ghost-add_use_fault : goal.ghost-add_use_fault
ghost-add_use_fault g a = g.at
