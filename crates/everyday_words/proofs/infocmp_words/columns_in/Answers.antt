-- the number is within the bounds exactly if clap's test says so
use Rattle.std.proofs.Common.{◌≤◌, refl, arith}
use Rattle.tools_commands.proofs.Widths.{within, no_number}
use Rattle.everyday_words.proofs.infocmp_words.columns_in.Goals as goal

pub returns-in-Ok : goal.returns-in-Ok
returns-in-Ok c =
    let parsed = c.in-Ok.ensures.value.0 in
    let least : 0 ≤ c.in-Ok.columns = omega arith in
    rw (within 0 2147483647 c.in-Ok.columns c.args.text.now parsed.0 parsed.1 least c.if-columns-le-COLUMNS_MAX.true, parsed.1) refl

pub returns-in_default-2 : goal.returns-in_default-2
returns-in_default-2 c = rw (no_number 0 2147483647 c.args.text.now c.in_default.ensures.value.0) refl
