use Rattle.std.proofs.Common.{ap, refl, sym}
use Rattle.everyday_starting.specs.Starting.{first_parts}
use Rattle.everyday_starting.proofs.Writing.{written_there}
use Rattle.everyday_tput.specs.Answers.{first_refused, last_refused, started, target_of, without_file}
use Rattle.everyday_tput.proofs.starting.started.Goals as goal

pub returns-in_default : goal.returns-in_default
returns-in_default c = λ statics line.
    let t = target_of c.args.target.now in
    let all = ap (first_parts c.args.is_reset t.full.entry) c.start_last.ensures in
    rw (c.status_alone.ensures.bytes, c.status_alone.ensures.status)
    (first_refused (rw c.in_default.is at (written_there _ _ _ _ c.in_ok-bytes.field-0 line all c.in_ok-bytes.ensures)))

pub returns-in_ok-push-in-Failed : goal.returns-in_ok-push-in-Failed
returns-in_ok-push-in-Failed c = λ statics line.
    let t = target_of c.args.target.now in
    let all = ap (first_parts c.args.is_reset t.full.entry) c.start_last.ensures in
    rw c.in_ok-push-in-Failed.ensures.items
    (without_file (rw c.in-Some.is at (written_there _ _ _ _ c.in_ok-bytes.field-0 line all c.in_ok-bytes.ensures)) (sym c.in-Failed.ensures))

pub returns-in_default-2 : goal.returns-in_default-2
returns-in_default-2 c = λ statics line.
    rw (c.status_alone-in_default-2.ensures.bytes, c.status_alone-in_default-2.ensures.status)
    (last_refused (sym c.in-Bytes.ensures)
    (rw c.in_default-2.is at (written_there _ _ _ _ c.in_ok-last-in-Bytes.field-0 line refl c.in_ok-last-in-Bytes.ensures)))

pub returns-in_ok-extend_from_slice-in-Bytes-2 : goal.returns-in_ok-extend_from_slice-in-Bytes-2
returns-in_ok-extend_from_slice-in-Bytes-2 c = λ statics line.
    let t = target_of c.args.target.now in
    let all = ap (first_parts c.args.is_reset t.full.entry) c.start_last.ensures in
    let before = rw c.in-Some.is at (written_there _ _ _ _ c.in_ok-bytes.field-0 line all c.in_ok-bytes.ensures) in
    let after = rw c.in-Some-2.is at (written_there _ _ _ _ c.in_ok-last-in-Bytes.field-0 line refl c.in_ok-last-in-Bytes.ensures) in
    rw (c.in_ok-extend_from_slice-in-Bytes-2.ensures.items, c.in_ok-extend_from_slice-in-Bytes.ensures.items, c.as_slice.ensures.value)
    (started before (sym c.in-Bytes.ensures) after)
