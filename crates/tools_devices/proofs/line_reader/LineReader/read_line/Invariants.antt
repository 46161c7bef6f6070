use Rattle.tools_devices.specs.Counted.{observation}
use Rattle.tools_devices.specs.inside.LineReader.{reads_left_of}
use Rattle.tools_devices.proofs.LineSteps.{Filled}
use Rattle.tools_devices.proofs.line_reader.LineReader.read_line.Given as goal

-- what was taken and was ahead is the line's front and what is ahead now
abbrev pub invariant-loop-self : goal.invariant-loop-self
invariant-loop-self g l = Filled l.initial.self l.self (observation g.R.Read.remaining l.initial.reader) (observation g.R.Read.remaining l.reader)

abbrev pub decreases-loop-self : goal.decreases-loop-self
decreases-loop-self g l = reads_left_of l.self
