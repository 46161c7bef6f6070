use Rattle.std.proofs.Common.{inl, refl}
use Rattle.tools_tput.specs.Runs.{words_of}
use Rattle.tools_tput.specs.inside.Runs.{line_step}
use Rattle.tools_tput.specs.inside.Terminal.{state_at}
use Rattle.tools_tput.proofs.Answering.{words_taken}
use Rattle.tools_tput.proofs.terminal.TerminalInterpreter.take_line.Goals as goal

pub returns : goal.returns
returns g c = λ s held.
    let step = line_step s.entry s.rate s.run c.args.line.now in
    let done = c.in_ok-bytes.ensures s.entry s.rate s.run held in
    inl (record {
      next = state_at s.entry s.rate step.after;
      reply = step.bytes;
      leads = (step, words_taken s.entry s.rate s.run (words_of c.args.line.now), refl, refl);
      holds = done.0;
      wrote = rw (c.as_slice.ensures.value, done.1) at c.write_out.ensures;
    })
