use Rattle.std.proofs.Common.{refl}
use Rattle.tools_tput.specs.Results.{refused, sent}
use Rattle.everyday_tput.specs.Answers.{by_expansion, by_fault, by_overflow}
use Rattle.everyday_tput.proofs.strings.expanded.Goals as goal

pub returns-in-Some : goal.returns-in-Some
returns-in-Some c = λ takes. by_expansion takes (rw c.arguments.ensures at c.in-Ok.ensures.ok) (sent (rw c.in-Some.is at c.in_ok-bytes-in-Ok.ensures))

pub returns-in-None : goal.returns-in-None
returns-in-None c = λ takes.
    rw (c.status_alone.ensures.bytes, c.status_alone.ensures.status)
    (by_expansion takes (rw c.arguments.ensures at c.in-Ok.ensures.ok) (refused (rw c.in-None.is at c.in_ok-bytes-in-Ok.ensures)))

pub returns-in-Err-BadFormat : goal.returns-in-Err-BadFormat
returns-in-Err-BadFormat c = λ takes.
    rw (c.status_alone-in-Err-BadFormat.ensures.bytes, c.status_alone-in-Err-BadFormat.ensures.status)
    (by_fault ((rw c.in-Err-BadFormat.field-0-is at (c.in-Err-BadFormat.ensures.bad_format c.in-Err-BadFormat.field-0-0)).0 refl))

pub returns-in-Err-StackFull : goal.returns-in-Err-StackFull
returns-in-Err-StackFull c = λ takes.
    rw (c.status_alone-in-Err-StackFull.ensures.bytes, c.status_alone-in-Err-StackFull.ensures.status)
    (by_overflow takes (rw c.arguments.ensures at ((rw c.in-Err-StackFull.field-0-is at (c.in-Err-StackFull.ensures.stack_full c.in-Err-StackFull.field-0-0)) refl)))
