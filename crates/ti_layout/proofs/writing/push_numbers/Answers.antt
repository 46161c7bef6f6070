use Rattle.std.proofs.Common.{ap, sym, subst}
use Rattle.ti_caps.specs.declared.capability.Kind.TheVariants.{Number}
use Rattle.ti_layout.specs.Values.{content_of}
use Rattle.ti_layout.proofs.Walked.{is_of}
use Rattle.ti_layout.proofs.WrittenSections.{HasNumbers, numbers_begun, numbers_done, number_put, no_number, passed, behind, all_past}
use Rattle.ti_layout.proofs.writing.push_numbers.Goals.{in-Number+in_ok-push_fill+in_ok-push_number, in_default}
use Rattle.ti_layout.proofs.writing.push_numbers.Goals as goal

pub loop-entry-init : goal.loop-entry-init
loop-entry-init c = numbers_begun _ _ _

pub overflow_sub-index : goal.overflow_sub-index
overflow_sub-index c = behind _ c.requires _ _ _ c.loop-entry-test.true c.entry-item.is Number _ c.loop-entry.invariant.walked
    (ap (λ v. is_of Number (content_of v)) c.in-Number.is) c.index.ensures.value

pub loop-entry-preserved : goal.loop-entry-preserved
loop-entry-preserved c = elim c.match-entry.branch [
  | in-Number+in_ok-push_fill+in_ok-push_number w ↦
      subst (λ im. HasNumbers _ _ _ im.items _ _) (sym w.image-is)
      (number_put _ c.requires _ _ _ c.loop-entry-test.true c.entry-item.is _ _ _ _ _ _ _ w.index.ensures.value w.index-written.ensures.value
      w.written-is _ _ _ w.in-Number.is c.loop-entry.invariant
      w.width.ensures.value w.in_ok-push_fill.ensures w.in_ok-push_number.ensures)
  | in_default w ↦
      record {
        walked = passed _ c.requires _ _ _ c.loop-entry-test.true c.entry-item.is Number _ c.loop-entry.invariant.walked
            (no_number _ w.in_default.not-Number) w.written-is;
        so_far = rw (w.image-is, w.written-is) c.loop-entry.invariant.so_far;
      }
]

pub returns : goal.returns
returns c = numbers_done _ c.requires _ _ _ (all_past _ _ c.loop-entry-test.false) _ _ c.loop-entry.invariant
