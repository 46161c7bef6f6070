use Rattle.std.proofs.Common.{sym}
use Rattle.user_extension.proofs.Entry.{wide_here}
use Rattle.user_extension.proofs.Fronts.{blank}
use Rattle.user_extension.proofs.writing.some_wide.Goals as goal

pub returns-then-is_wide : goal.returns-then-is_wide
returns-then-is_wide c = sym (wide_here c.args.rows.now c.loop-row.row-index blank c.loop-row-test.true (sym c.if-is_wide.ensures))
