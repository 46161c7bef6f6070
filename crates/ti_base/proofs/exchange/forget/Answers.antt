use Rattle.ti_base.proofs.SlotExchanges.{read_same, slots_same}
use Rattle.ti_base.proofs.exchange.forget.Goals as goal

pub returns-clause-read : goal.returns-clause-read
returns-clause-read c =
    read_same c.args.slots.now c.forget_unused.new.self c.requires (slots_same c.args.slots.now c.forget_unused.new.self c.forget_unused.ensures.placed)

pub returns-clause-slots : goal.returns-clause-slots
returns-clause-slots c = slots_same c.args.slots.now c.forget_unused.new.self c.forget_unused.ensures.placed
