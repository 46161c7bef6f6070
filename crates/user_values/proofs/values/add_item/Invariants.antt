use Rattle.user_values.proofs.values.add_item.Given as goal

abbrev pub ghost-merge_owner : goal.ghost-merge_owner
ghost-merge_owner g a = g.rule
