use Rattle.std.proofs.Common.{ap, ◌∙◌}
use Rattle.user_extension.specs.declared.keys.TheConstants.{MARKS}
use Rattle.user_extension.specs.inside.Keys.{has_mark, is_marked}
use Rattle.user_extension.proofs.keys.is_marked.Goals as goal

pub returns : goal.returns
unfolding is_marked
returns c = c.has_mark.ensures ∙ ap (has_mark MARKS) c.spot.ensures.value
