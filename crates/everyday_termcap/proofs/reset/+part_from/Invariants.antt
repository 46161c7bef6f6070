use Rattle.everyday_termcap.proofs.reset.+part_from.Given as goal

abbrev pub decreases-part_from : goal.decreases-part_from
decreases-part_from l = l.tries
