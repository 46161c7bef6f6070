use Rattle.tools_tput.specs.Results.{refused, sent}
use Rattle.everyday_tput.proofs.strings.as_it_stands.Goals as goal

pub returns-in-Some : goal.returns-in-Some
returns-in-Some c = λ statics. sent (rw c.in-Some.is at c.in_ok-bytes.ensures)

pub returns-in-None : goal.returns-in-None
returns-in-None c = λ statics. rw (c.status_alone.ensures.bytes, c.status_alone.ensures.status) (refused (rw c.in-None.is at c.in_ok-bytes.ensures))
