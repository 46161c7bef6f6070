use Rattle.std.proofs.lemmas.Result.{IfOk-weaker}
use Rattle.base_plan.proofs.AllPlans.{all_found, all_planned}
use Rattle.base_plan.proofs.planning.plan_all.Goals as goal

pub make_plan-requires : goal.make_plan-requires
make_plan-requires c =
    let found = c.in_ok-all.ensures in
    all_found c.args.slots.now c.in_ok-all.all found.all c.requires c.in_ok-all.ensures.distinct found.uses found.graph

pub returns : goal.returns
returns c =
    IfOk-weaker c.make_plan.result _ _ (λ made. all_planned c.args.slots.now c.in_ok-all.all c.in_ok-all.ensures.all made c.in_ok-all.ensures.distinct)
    c.make_plan.ensures
