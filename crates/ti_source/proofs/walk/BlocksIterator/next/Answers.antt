use Rattle.std.proofs.Common.{◌<◌, length, refl, ap, ◌∙◌, rules}
use Rattle.ti_source.specs.Cutting.{front_of}
use Rattle.ti_source.proofs.WalkLemmas.{takes_block, takes_run}
use Rattle.ti_source.proofs.walk.BlocksIterator.next.Goals as goal

pub split_at-requires : goal.split_at-requires
split_at-requires c =
    let some : 0 < length c.self.inside.rest.now = search rules in
    (takes_block _ _ some c.self.invariant c.next_head.ensures).within

pub invariant_of-self : goal.invariant_of-self
invariant_of-self c =
    let some : 0 < length c.self.inside.rest.now = search rules in
    ap (front_of 10) c.split_at.ensures.back ∙ (takes_block _ _ some c.self.invariant c.next_head.ensures).front

pub returns-clause-steps : goal.returns-clause-steps
returns-clause-steps c =
    let some : 0 < length c.self.inside.rest.now = search rules in
    let taken = takes_block _ _ some c.self.invariant c.next_head.ensures in
    rw (← c.self.view_is, c.split_at.ensures.front, c.split_at.ensures.back) (taken.left, refl)

pub returns-clause-goes : goal.returns-clause-goes
returns-clause-goes c = takes_run _ _ _ _ _ _ tt (returns-clause-steps c).0
