use Rattle.std.proofs.Common.{ap, sym, subst}
use Rattle.ti_caps.specs.declared.capability.Kind.TheVariants.{Flag}
use Rattle.ti_layout.specs.Values.{content_of}
use Rattle.ti_layout.proofs.Walked.{is_of}
use Rattle.ti_layout.proofs.WrittenSections.{HasFlags, flags_begun, flags_done, flag_put, no_flag, passed, behind, all_past}
use Rattle.ti_layout.proofs.writing.push_flags.Goals.{in-True+in_ok-push_fill+in_ok-push, in_default}
use Rattle.ti_layout.proofs.writing.push_flags.Goals as goal

pub loop-entry-init : goal.loop-entry-init
loop-entry-init c = flags_begun _ _

pub overflow_sub-index : goal.overflow_sub-index
overflow_sub-index c = behind _ c.requires _ _ _ c.loop-entry-test.true c.entry-item.is Flag _ c.loop-entry.invariant.walked
    (ap (λ v. is_of Flag (content_of v)) c.in-True.is) c.index.ensures.value

pub loop-entry-preserved : goal.loop-entry-preserved
loop-entry-preserved c = elim c.match-entry.branch [
  | in-True+in_ok-push_fill+in_ok-push w ↦
      subst (λ im. HasFlags _ _ im.items _ _) (sym w.image-is)
      (flag_put _ c.requires _ _ _ c.loop-entry-test.true c.entry-item.is _ _ _ _ _ _ _ w.index.ensures.value w.index-written.ensures.value w.written-is
      w.in-True.is c.loop-entry.invariant w.in_ok-push_fill.ensures w.in_ok-push.ensures.items)
  | in_default w ↦
      record {
        walked = passed _ c.requires _ _ _ c.loop-entry-test.true c.entry-item.is Flag _ c.loop-entry.invariant.walked
            (no_flag _ w.in_default.not-True) w.written-is;
        so_far = rw (w.image-is, w.written-is) c.loop-entry.invariant.so_far;
      }
]

pub returns : goal.returns
returns c = flags_done _ c.requires _ _ _ (all_past _ _ c.loop-entry-test.false) _ c.loop-entry.invariant
