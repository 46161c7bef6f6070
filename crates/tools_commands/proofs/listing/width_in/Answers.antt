-- the number is within the bounds exactly if clap's test says so
use Rattle.std.proofs.Common.{refl}
use Rattle.tools_commands.proofs.Widths.{within, no_number}
use Rattle.tools_commands.proofs.listing.width_in.Goals as goal

pub returns-in-Ok : goal.returns-in-Ok
returns-in-Ok c =
    let parsed = c.in-Ok.ensures.value.0 in
    rw (within 20 4096 c.in-Ok.width c.args.text.now parsed.0 parsed.1 c.if-width-ge-WIDTH_MIN.true c.if-width-le-WIDTH_MAX.true, parsed.1) refl

pub returns-in_default-3 : goal.returns-in_default-3
returns-in_default-3 c = rw (no_number 20 4096 c.args.text.now c.in_default.ensures.value.0) refl
