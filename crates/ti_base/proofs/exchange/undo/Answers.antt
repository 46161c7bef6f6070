use Rattle.ti_base.proofs.exchange.undo.Goals as goal

pub exchange-requires : goal.exchange-requires
exchange-requires c = rw (c.positions-out.ensures.out, c.positions-out.ensures.put) c.requires

pub returns : goal.returns
returns c = rw (← c.positions-out.ensures.out, ← c.positions-out.ensures.put) c.exchange.ensures.slots
