use Rattle.std.proofs.Common.{ap, ◌∙◌}
use Rattle.source_format.specs.Kinds.{kind_of, kind_stated}
use Rattle.source_format.proofs.kinds.kind_of.Goals as goal

pub returns-in-Some : goal.returns-in-Some
unfolding kind_of
returns-in-Some c = c.kind_stated.ensures ∙ ap kind_stated c.in-Some.ensures

pub returns-in-None : goal.returns-in-None
unfolding kind_of
returns-in-None c = ap kind_stated c.in-None.ensures
