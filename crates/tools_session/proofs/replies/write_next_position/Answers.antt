use Rattle.std.proofs.Common.{refl}
use Rattle.std.specs.Fmt.{decimal}
use Rattle.std.proofs.lemmas.Result.{err_from_is_err_and}
use Rattle.tools_devices.proofs.Written.{Wrote-short, Wrote-whole}
use Rattle.tools_session.proofs.replies.write_next_position.Goals as goal

pub returns-in_err-write_out : goal.returns-in_err-write_out
returns-in_err-write_out g c =
    let p = err_from_is_err_and c.from_residual.result c.from_residual.ensures.1 in
    rw (p.1, p.2) (Wrote-short _ _ _ (decimal c.args.position) _ _ c.in_err-write_out.ensures refl)

pub returns : goal.returns
returns g c =
    Wrote-whole _ _ _ _ (decimal c.args.position) _ c.write_out-2.result c.in_ok-write_out.ensures
    (rw (c.as_bytes.ensures.value, c.format.ensures.text) at c.write_out-2.ensures) refl
