use Rattle.ti_compiled.proofs.TableWalk.{same_but, content_given}
use Rattle.ti_compiled.proofs.patching.give_changed.Goals as goal

pub returns-clause-others : goal.returns-clause-others
returns-clause-others c = same_but _ _ _ _ c.in_ok-set.ensures.contents

pub returns-clause-given : goal.returns-clause-given
returns-clause-given c = content_given _ _ _ _ c.in_ok-set.ensures.contents c.set.ensures.valid
