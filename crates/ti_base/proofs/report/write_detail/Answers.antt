use Rattle.std.proofs.Common.{append_assoc, arith, refl}
use Rattle.std.proofs.lemmas.List.{map_more}
use Rattle.base_meaning.specs.Report.{shown_byte}
use Rattle.ti_base.proofs.report.write_detail.Goals as goal

pub loop-byte-preserved : goal.loop-byte-preserved
loop-byte-preserved c =
    rw (
      c.in_ok-push-2.ensures.items,
      c.loop-byte.invariant,
      c.printed_byte.ensures,
      map_more shown_byte c.args.detail.now c.loop-byte.byte-index 0
          (omega arith),
      append_assoc,
    ) refl
