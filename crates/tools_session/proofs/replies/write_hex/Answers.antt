use Rattle.std.proofs.Common.{◌++◌}
use Rattle.std.proofs.lemmas.Grind.{flat_map-append}
use Rattle.std.proofs.lemmas.Result.{err_from_is_err_and}
use Rattle.tools_session.proofs.Printed.{hex_of-front, hex_of-parts}
use Rattle.tools_devices.proofs.Written.{TakesAll-then, Wrote-over}
use Rattle.tools_session.proofs.replies.write_hex.Goals as goal

pub returns-in_err-write_out : goal.returns-in_err-write_out
returns-in_err-write_out g c =
    let p = err_from_is_err_and c.from_residual.result c.from_residual.ensures.1 in
    let whole = hex_of-front c.loop-rest.invariant.0 c.loop-rest.rest.now c.split_at.result.0.now _ c.args.bytes.now c.loop-rest.invariant.1
    c.split_at.ensures.front in
    rw (p.1, p.2) (Wrote-over _ _ _ _ _ _ _ _ c.loop-rest.invariant.2 (rw (c.as_slice.ensures.value, c.hex_piece.ensures) at c.in_err-write_out.ensures)
    (hex_of-parts c.loop-rest.invariant.0 c.split_at.result.0.now _ c.args.bytes.now whole))

pub loop-rest-preserved : goal.loop-rest-preserved
loop-rest-preserved g c =
    let whole = hex_of-front c.loop-rest.invariant.0 c.loop-rest.rest.now c.split_at.result.0.now _ c.args.bytes.now c.loop-rest.invariant.1
    c.split_at.ensures.front in (
      c.loop-rest.invariant.0 ++ c.split_at.result.0.now,
      rw c.split_at.ensures.back whole,
      rw flat_map-append (TakesAll-then _ _ _ _ _ c.loop-rest.invariant.2 (rw (c.as_slice.ensures.value, c.hex_piece.ensures) at c.in_ok-write_out.ensures)),
    )
