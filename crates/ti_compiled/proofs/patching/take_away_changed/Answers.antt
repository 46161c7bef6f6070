use Rattle.std.proofs.Common.{sym}
use Rattle.ti_compiled.proofs.TableWalk.{same_but, content_given}
use Rattle.ti_compiled.proofs.patching.take_away_changed.Goals as goal

pub returns-clause-others : goal.returns-clause-others
returns-clause-others c = same_but _ _ _ _ c.in_ok-set.ensures.contents

pub returns-clause-left : goal.returns-clause-left
returns-clause-left c =
    let gone = content_given _ _ _ _ c.in_ok-set.ensures.contents c.set.ensures.valid in
    record { same = λ e. let t = c.if-gives.ensures.1 (sym e) in let f = c.if-gives.false in absurd cc; gone = λ other. gone }
