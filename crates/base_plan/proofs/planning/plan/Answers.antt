use Rattle.std.proofs.Common.{map}
use Rattle.std.proofs.lemmas.Result.{IfOk-weaker}
use Rattle.std.specs.Rc.{rc_slice_items}
use Rattle.base_plan.proofs.MadePlans.{found_in, plan_is}
use Rattle.base_plan.proofs.planning.plan.Goals as goal

pub make_plan-requires : goal.make_plan-requires
make_plan-requires c =
    let found = c.in_ok-dependents.ensures in
    found_in c.args.slots.now c.args.put (map rc_slice_items c.args.out.now) c.in_ok-dependents.dependents c.requires.usable c.requires.ready found.distinct
    found.found found.uses found.graph

pub returns : goal.returns
returns c =
    let found = c.in_ok-dependents.ensures in
    let is = found_in c.args.slots.now c.args.put (map rc_slice_items c.args.out.now) c.in_ok-dependents.dependents c.requires.usable c.requires.ready
    found.distinct found.found found.uses found.graph in
    IfOk-weaker c.make_plan.result _ _
    (λ made. plan_is c.args.slots.now c.args.put (map rc_slice_items c.args.out.now) c.in_ok-dependents.dependents made is found.found) c.make_plan.ensures
