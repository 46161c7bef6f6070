use Rattle.ti_tools.proofs.stopping.write_fault.Goals as goal

pub returns-in-NoTerminal : goal.returns-in-NoTerminal
returns-in-NoTerminal g c = rw c.in-NoTerminal.is c.write_line.ensures

pub returns-in-BadEntry : goal.returns-in-BadEntry
returns-in-BadEntry g c = rw (c.in-BadEntry.is, ← c.refusal_end.ensures) c.write_line-in-BadEntry.ensures
