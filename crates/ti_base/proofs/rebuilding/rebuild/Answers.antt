use Rattle.ti_base.specs.inside.Exchanges.{names_seen}
use Rattle.ti_base.proofs.Installing.{all_usable, all_stand, kept_installed, rule_stays, texts_stay}
use Rattle.ti_base.proofs.rebuilding.rebuild.Goals as goal

pub plan-requires-clause-usable : goal.plan-requires-clause-usable
plan-requires-clause-usable c = all_usable c.args.slots.now c.requires.read

pub plan-requires-clause-ready : goal.plan-requires-clause-ready
plan-requires-clause-ready c = rw c.names_of.ensures c.requires.ready

pub install-requires-clause-stand : goal.install-requires-clause-stand
install-requires-clause-stand c =
    let is = rw c.names_of.ensures at c.in_ok-plan.ensures in
    all_stand c.args.slots.now c.args.put (names_seen c.args.out.now) c.in_ok-plan.plan is

pub returns-clause-kept : goal.returns-clause-kept
returns-clause-kept c =
    let is = rw c.names_of.ensures at c.in_ok-plan.ensures in
    kept_installed c.args.slots.now c.install.new.slots c.args.put (names_seen c.args.out.now) c.in_ok-plan.plan c.requires.read c.requires.ready is
    c.install.ensures.slots

pub returns-clause-texts : goal.returns-clause-texts
returns-clause-texts c =
    texts_stay c.args.slots.now c.install.new.slots c.in_ok-plan.plan.ids.items c.in_ok-plan.plan.settled.items c.install.ensures.slots

pub returns-clause-ruled : goal.returns-clause-ruled
returns-clause-ruled c =
    rule_stays c.args.slots.now c.install.new.slots c.in_ok-plan.plan.ids.items c.in_ok-plan.plan.settled.items c.in_ok-plan.ensures.as_many
    c.install.ensures.slots
