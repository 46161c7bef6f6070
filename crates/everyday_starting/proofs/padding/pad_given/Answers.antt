use Rattle.tools_tput.specs.Results.{absent, no_string}
use Rattle.everyday_starting.proofs.Sending.{given_some}
use Rattle.everyday_starting.proofs.padding.pad_given.Goals as goal

pub returns-in-Some : goal.returns-in-Some
returns-in-Some c = rw c.in-Some.is (given_some c.args.line.now c.in-Some.text.now c.pad_once.result c.pad_once.ensures)

pub returns-in-None : goal.returns-in-None
returns-in-None c = rw (c.in-None.is, c.new.ensures.items) (absent no_string)
