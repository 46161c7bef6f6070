use Rattle.base_plan.proofs.tables.say.Given as goal

abbrev pub ghost-merge_owner : goal.ghost-merge_owner
ghost-merge_owner g a = g.at
