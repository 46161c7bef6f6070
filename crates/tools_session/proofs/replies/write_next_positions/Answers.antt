use Rattle.std.proofs.Common.{◌<◌, length, arith}
use Rattle.std.proofs.lemmas.Result.{err_from_is_err_and}
use Rattle.tools_devices.proofs.Written.{Wrote-over}
use Rattle.tools_session.proofs.Printed.{next_positions-front}
use Rattle.tools_session.proofs.replies.write_next_positions.Goals as goal

pub returns-in_err-write_next_position : goal.returns-in_err-write_next_position
returns-in_err-write_next_position g c =
    let p = err_from_is_err_and c.from_residual.result c.from_residual.ensures.1 in
    let low : c.loop-position.position-index < length c.args.positions.now = omega arith in
    rw (p.1, p.2) (Wrote-over _ _ _ _ _ _ _ _ c.loop-position.invariant c.in_err-write_next_position.ensures
    (next_positions-front c.args.positions.now c.loop-position.position-index low))
