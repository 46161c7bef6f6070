use Rattle.ti_base.proofs.Installing.{all_listed_stand, all_usable, kept_once, rule_stays, texts_stay}
use Rattle.ti_base.proofs.rebuilding.rebuild_all.Goals as goal

pub plan_all-requires : goal.plan_all-requires
plan_all-requires c = all_usable c.args.slots.now c.requires

pub install-requires-clause-stand : goal.install-requires-clause-stand
install-requires-clause-stand c = all_listed_stand c.args.slots.now c.in_ok-plan.plan c.in_ok-plan.ensures

pub returns-clause-kept : goal.returns-clause-kept
returns-clause-kept c =
    kept_once c.args.slots.now c.install.new.slots c.in_ok-plan.plan c.requires c.in_ok-plan.ensures c.install.ensures.slots

pub returns-clause-texts : goal.returns-clause-texts
returns-clause-texts c =
    texts_stay c.args.slots.now c.install.new.slots c.in_ok-plan.plan.ids.items c.in_ok-plan.plan.settled.items c.install.ensures.slots

pub returns-clause-ruled : goal.returns-clause-ruled
returns-clause-ruled c =
    rule_stays c.args.slots.now c.install.new.slots c.in_ok-plan.plan.ids.items c.in_ok-plan.plan.settled.items c.in_ok-plan.ensures.as_many
    c.install.ensures.slots
