use Rattle.std.proofs.Common.{inl, refl}
use Rattle.everyday_tput.proofs.terminal.TerminalInterpreter.take_line.Goals as goal

pub returns : goal.returns
returns g c = λ s held.
    let done = c.in_ok-bytes.ensures s.target s.run held in
    inl (record {
      next = record { target = s.target; run = done.0 };
      reply = c.in_ok-bytes.bytes.items;
      leads = (refl, done.1);
      holds = done.2;
      wrote = rw c.as_slice.ensures.value at c.write_out.ensures;
    })
