use Rattle.everyday_termcap.proofs.reset.+same_from.Given as goal

abbrev pub decreases-same_from : goal.decreases-same_from
decreases-same_from l = l.tries
