use Rattle.base_plan.proofs.tables.own_first_table.Given as goal

abbrev pub ghost-used_mentions : goal.ghost-used_mentions
ghost-used_mentions g a = g.at

abbrev pub ghost-own_mentions : goal.ghost-own_mentions
ghost-own_mentions g a = g.at
