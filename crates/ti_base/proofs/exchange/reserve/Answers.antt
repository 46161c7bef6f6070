use Rattle.std.proofs.Common.{◌∙◌}
use Rattle.ti_base.proofs.SlotExchanges.{read_same, slots_same}
use Rattle.ti_base.proofs.exchange.reserve.Goals as goal

pub returns-in-Ok-clause-read : goal.returns-in-Ok-clause-read
returns-in-Ok-clause-read c =
    read_same c.args.slots.now c.make_room.new.self c.requires (slots_same c.args.slots.now c.make_room.new.self c.make_room.ensures.placed)

pub returns-in-Err-clause-read : goal.returns-in-Err-clause-read
returns-in-Err-clause-read c =
    read_same c.args.slots.now c.forget_unused.new.self c.requires
    (slots_same c.args.slots.now c.forget_unused.new.self (c.forget_unused.ensures.placed ∙ c.make_room.ensures.placed))
