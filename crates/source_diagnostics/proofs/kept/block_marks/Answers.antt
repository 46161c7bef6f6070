use Rattle.std.proofs.Common.{List, ◌+◌, ◌++◌, ap, drop, ◌∙◌, arith}
use Rattle.source_diagnostics.specs.inside.Kept.{block_marks, sought_in}
use Rattle.source_diagnostics.proofs.BlockFaults.{mark_more}
use Rattle.source_diagnostics.proofs.kept.block_marks.Goals as goal
use Rattle.source_types.specs.declared.places.Range.{Range}

pub loop-fault-preserved : goal.loop-fault-preserved
loop-fault-preserved c = record {
  shown = ap (λ (ms : List Range). ms ++ block_marks c.args.text.now c.next_mark-mark.new.finder (sought_in (drop (c.loop-fault.fault-index + 1) c.args.faults.now)))
      c.in_ok-push.ensures.items
      ∙ mark_more c.args.text.now c.loop-fault.walk c.loop-fault.finder c.next_mark-mark.new.finder c.loop-fault.marks.items _ c.args.faults.now
      c.loop-fault.fault-index c.fault-item.result c.next_mark-mark.result (omega arith) c.fault-item.is c.loop-fault.invariant.walk
      c.next_mark-mark.ensures.mark c.next_mark-mark.ensures.left c.loop-fault.invariant.shown;
  walk = c.next_mark-mark.ensures.same ∙ c.loop-fault.invariant.walk;
}
