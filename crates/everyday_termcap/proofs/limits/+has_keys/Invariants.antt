use Rattle.everyday_termcap.proofs.limits.+has_keys.Given as goal

abbrev pub decreases-has_keys : goal.decreases-has_keys
decreases-has_keys l = l.number
