use Rattle.std.proofs.Common.{arith}
use Rattle.user_extension.specs.UserDefined.{rows_of}
use Rattle.user_extension.specs.View.{read_rows}
use Rattle.everyday_constants.proofs.Written.{one-more}
use Rattle.everyday_constants.proofs.entries.present.Goals as goal

pub loop-place-preserved : goal.loop-place-preserved
loop-place-preserved c =
    one-more (read_rows c.args.extension.now) (rows_of c.loop-place.rows.items) (rows_of c.push_row.new.rows.items) c.loop-place.place c.loop-place.invariant
    (omega arith) c.in_ok-push_row.ensures
