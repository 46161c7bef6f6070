use Rattle.std.proofs.Common.{inl, refl}
use Rattle.std.proofs.lemmas.Result.{err_from_is_err_and}
use Rattle.tools_devices.proofs.Written.{Wrote-short, Wrote-whole}
use Rattle.tools_session.proofs.editor.report.Goals as goal

pub returns-in_err-write_out-in-Ok : goal.returns-in_err-write_out-in-Ok
returns-in_err-write_out-in-Ok g c =
    let p = err_from_is_err_and c.from_residual.result c.from_residual.ensures.1 in
    rw (p.1, p.2) (inl (Wrote-short _ _ _ _ _ _ (rw (c.as_slice.ensures.value, c.in-Ok.ensures) at c.in_err-write_out-in-Ok.ensures) refl))

pub returns-in_ok-write_out-in-Ok : goal.returns-in_ok-write_out-in-Ok
returns-in_ok-write_out-in-Ok g c =
    inl (Wrote-whole _ _ _ _ _ _ c.write_out-in-Ok.result (rw (c.as_slice.ensures.value, c.in-Ok.ensures) at c.in_ok-write_out-in-Ok.ensures)
    c.write_out-in-Ok.ensures refl)
