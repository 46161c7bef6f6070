use Rattle.everyday_termcap.proofs.limits.+first_lost.Given as goal

abbrev pub decreases-first_lost : goal.decreases-first_lost
decreases-first_lost l = l.number
