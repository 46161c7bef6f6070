use Rattle.base_plan.proofs.settling.find_state.Given as goal

abbrev pub ghost-compile : goal.ghost-compile
ghost-compile g a = g.at
