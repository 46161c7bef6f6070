use Rattle.std.proofs.Common.{[], ◌∷◌, sym, ◌∙◌, append_assoc}
use Rattle.std.specs.Fmt.{decimal}
use Rattle.std.specs.List.{flat_map}
use Rattle.std.proofs.lemmas.Result.{err_from_is_err_and}
use Rattle.tools_devices.proofs.Written.{TakesAll-then, Wrote-over, Wrote-short, Wrote-whole}
use Rattle.tools_session.specs.Replies.{next_position}
use Rattle.tools_session.proofs.Printed.{positions_text-some}
use Rattle.tools_session.proofs.replies.write_positions.Goals as goal

pub returns-in_err-write_out : goal.returns-in_err-write_out
returns-in_err-write_out g c =
    let p = err_from_is_err_and c.from_residual.result c.from_residual.ensures.1 in
    let whole = positions_text-some c.args.positions.now c.in-Some.others.now c.in-Some.first.now c.in-Some.ensures.cases.0 in
    rw (p.1, p.2) (Wrote-short _ _ _ _ _ _ (rw (c.as_bytes.ensures.value, c.format.ensures.text) at c.in_err-write_out.ensures) whole)

pub returns-in_err-write_next_positions : goal.returns-in_err-write_next_positions
returns-in_err-write_next_positions g c =
    let p = err_from_is_err_and c.from_residual-in_err-write_next_positions.result c.from_residual-in_err-write_next_positions.ensures.1 in
    let whole = positions_text-some c.args.positions.now c.in-Some.others.now c.in-Some.first.now c.in-Some.ensures.cases.0
    ∙ sym (append_assoc (decimal c.in-Some.first.now) (flat_map next_position c.in-Some.others.now) (10 ∷ [])) in
    rw (p.1, p.2) (Wrote-over _ _ _ _ _ _ _ _ (rw (c.as_bytes.ensures.value, c.format.ensures.text) at c.in_ok-write_out.ensures)
    c.in_err-write_next_positions.ensures whole)

pub returns : goal.returns
returns g c =
    let whole = positions_text-some c.args.positions.now c.in-Some.others.now c.in-Some.first.now c.in-Some.ensures.cases.0
    ∙ sym (append_assoc (decimal c.in-Some.first.now) (flat_map next_position c.in-Some.others.now) (10 ∷ [])) in
    let front =
    TakesAll-then _ _ _ _ _ (rw (c.as_bytes.ensures.value, c.format.ensures.text) at c.in_ok-write_out.ensures) c.in_ok-write_next_positions.ensures in
    Wrote-whole _ _ _ _ _ _ c.write_out-3.result front c.write_out-3.ensures whole
