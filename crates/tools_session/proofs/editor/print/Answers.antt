use Rattle.std.proofs.Common.{◌<◌, length, arith}
use Rattle.std.proofs.lemmas.Result.{err_from_is_err_and}
use Rattle.tools_session.proofs.Printed.{print_reply-some}
use Rattle.tools_devices.proofs.Written.{Wrote-short, Wrote-whole}
use Rattle.tools_session.proofs.editor.print.Goals as goal

pub returns-in_err-write_hex-in-Some : goal.returns-in_err-write_hex-in-Some
returns-in_err-write_hex-in-Some g c =
    let p = err_from_is_err_and c.from_residual.result c.from_residual.ensures.1 in
    let low : c.args.at < length c.args.database.now = omega arith in
    rw (p.1, p.2) (Wrote-short _ _ _ _ _ _ c.in_err-write_hex-in-Some.ensures (print_reply-some c.args.database.now c.args.at _ low c.in-Some.ensures))

pub returns-in_ok-write_hex-in-Some : goal.returns-in_ok-write_hex-in-Some
returns-in_ok-write_hex-in-Some g c =
    let low : c.args.at < length c.args.database.now = omega arith in
    Wrote-whole _ _ _ _ _ _ c.write_out-in-Some.result c.in_ok-write_hex-in-Some.ensures c.write_out-in-Some.ensures
    (print_reply-some c.args.database.now c.args.at _ low c.in-Some.ensures)
