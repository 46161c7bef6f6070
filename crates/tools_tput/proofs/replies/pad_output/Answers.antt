use Rattle.std.proofs.Common.{refl}
use Rattle.tools_tput.proofs.Padded.{padded_text-some, padded_text-none}
use Rattle.tools_tput.proofs.replies.pad_output.Goals as goal

pub returns-in-Ok : goal.returns-in-Ok
returns-in-Ok c =
    padded_text-some c.args.line.now c.args.output.items c.in-Ok.bytes.items c.in-Ok.ensures.ok
    (λ asks. let clash = c.in-Ok.ensures.too_much.1 asks in absurd (cc clash))

pub returns-in-Err-TooMuch : goal.returns-in-Err-TooMuch
returns-in-Err-TooMuch c =
    padded_text-none c.args.line.now c.args.output.items ((rw c.in-Err-TooMuch.field-0-is at c.in-Err-TooMuch.ensures.too_much).0 refl)
