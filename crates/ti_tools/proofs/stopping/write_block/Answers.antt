use Rattle.ti_tools.proofs.stopping.write_block.Goals as goal

pub returns : goal.returns
returns g c = rw (← c.format.ensures.text, ← c.as_bytes-digits.ensures.value) c.write_line.ensures
