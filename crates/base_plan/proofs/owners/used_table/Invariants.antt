use Rattle.base_plan.proofs.owners.used_table.Given as goal

abbrev pub ghost-owner_state : goal.ghost-owner_state
ghost-owner_state g a = g.at
