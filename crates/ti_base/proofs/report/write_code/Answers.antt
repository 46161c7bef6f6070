use Rattle.std.proofs.Common.{append_assoc}
use Rattle.ti_base.proofs.report.write_code.Goals as goal

pub returns : goal.returns
returns c =
    rw (
      c.in_ok-extend_from_slice-2.ensures.items,
      c.in_ok-push.ensures.items,
      c.in_ok-extend_from_slice.ensures.items,
      c.as_bytes-2.ensures.value,
      c.name.ensures,
      c.as_bytes.ensures.value,
      c.label.ensures,
    )
    (simp append_assoc)
