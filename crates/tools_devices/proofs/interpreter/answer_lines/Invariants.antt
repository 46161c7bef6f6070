use Rattle.std.specs.Prelude.{◌≡◌, ◌+◌}
use Rattle.tools_devices.proofs.Answering.{Progress}
use Rattle.tools_devices.specs.Counted.{observation, reads_of}
use Rattle.tools_devices.specs.inside.LineReader.{bytes_left, line_limit_of, reads_left_of}
use Rattle.tools_devices.specs.Reading.{reads_max}
use Rattle.tools_devices.proofs.interpreter.answer_lines.Given as goal

-- the lines that were read are answered, and each read took one of those that were left
abbrev pub invariant-loop-lines : goal.invariant-loop-lines
invariant-loop-lines g l =
    ((start : g.I.Interpreter.State) → g.I.Interpreter.holds l.fn.interpreter start
    → Progress g.I.Interpreter.leads g.I.Interpreter.may_run_out l.fn.limit start (observation g.R.Read.remaining l.fn.reader)
    (observation g.W.Write.contents l.fn.writer) (g.I.Interpreter.holds l.interpreter) l.lines
    (observation g.R.Read.remaining l.reader) (observation g.W.Write.contents l.writer))
    × (line_limit_of l.lines ≡ l.fn.limit)
    × (reads_left_of l.lines + reads_of l.reader ≡ reads_max + reads_of l.fn.reader)

abbrev pub decreases-loop-lines : goal.decreases-loop-lines
decreases-loop-lines g l = bytes_left l.lines
