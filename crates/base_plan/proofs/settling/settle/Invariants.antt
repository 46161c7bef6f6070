use Rattle.base_plan.proofs.settling.settle.Given as goal

abbrev pub ghost-slot_of : goal.ghost-slot_of
ghost-slot_of g a = g.at

abbrev pub ghost-add_locals : goal.ghost-add_locals
ghost-add_locals g a = g.at

abbrev pub ghost-add_item_faults : goal.ghost-add_item_faults
ghost-add_item_faults g a = g.at

abbrev pub ghost-find_state : goal.ghost-find_state
ghost-find_state g a = g.at

abbrev pub ghost-add_entry_fault : goal.ghost-add_entry_fault
ghost-add_entry_fault g a = g.at
