use Rattle.std.proofs.Common.{◌+◌, ap, sym, subst, ◌∙◌, arith}
use Rattle.ti_caps.specs.declared.capability.Kind.TheVariants.{Text}
use Rattle.ti_layout.specs.Values.{content_of}
use Rattle.ti_layout.proofs.Walked.{is_of}
use Rattle.ti_layout.proofs.WrittenSections.{HasOffsets, offsets_begun, offsets_done, offset_put, no_text, passed, behind, all_past, text_within}
use Rattle.ti_layout.proofs.writing.push_offsets.Goals.{in-Text+in_ok-push_fill+in_ok-push_number, in_default}
use Rattle.ti_layout.proofs.writing.push_offsets.Goals as goal

pub loop-entry-init : goal.loop-entry-init
loop-entry-init c = offsets_begun _ _

pub overflow_sub-index : goal.overflow_sub-index
overflow_sub-index c = behind _ c.requires.sorted _ _ _ c.loop-entry-test.true c.entry-item.is Text _ c.loop-entry.invariant.walked
    (ap (λ v. is_of Text (content_of v)) c.in-Text.is) c.index.ensures.value

pub loop-entry-preserved : goal.loop-entry-preserved
loop-entry-preserved c = elim c.match-entry.branch [
  | in-Text+in_ok-push_fill+in_ok-push_number w ↦
      subst (λ im. HasOffsets _ _ im.items _ _ _) (sym w.image-is)
      (offset_put _ c.requires.sorted _ _ _ c.loop-entry-test.true c.entry-item.is _ _ _ _ _ _ _ w.index.ensures.value w.index-written.ensures.value
      w.written-is _ _ _ (ap content_of w.in-Text.is) c.loop-entry.invariant
      w.in_ok-push_fill.ensures w.in_ok-push_number.ensures (w.offset-is ∙ ap (λ n. c.loop-entry.offset + (n + 1)) w.len.ensures))
  | in_default w ↦
      record {
        walked = passed _ c.requires.sorted _ _ _ c.loop-entry-test.true c.entry-item.is Text _ c.loop-entry.invariant.walked
            (no_text _ w.in_default.not-Text) w.written-is;
        length_before = rw (w.offset-is, w.written-is) c.loop-entry.invariant.length_before;
        so_far = rw (w.image-is, w.written-is) c.loop-entry.invariant.so_far;
      }
]

pub returns : goal.returns
returns c = offsets_done _ c.requires.sorted _ _ _ (all_past _ _ c.loop-entry-test.false) _ _ c.loop-entry.invariant

pub overflow_cast-offset : goal.overflow_cast-offset
overflow_cast-offset c =
    let within = text_within _ c.requires.sorted _ _ _ c.loop-entry-test.true c.entry-item.is _ _
    (ap content_of c.in-Text.is) c.loop-entry.invariant.walked c.loop-entry.invariant.length_before in
    let fits = c.requires.fits in
    omega arith

pub overflow_add-offset-in-Text : goal.overflow_add-offset-in-Text
overflow_add-offset-in-Text c =
    let within = text_within _ c.requires.sorted _ _ _ c.loop-entry-test.true c.entry-item.is _ _
    (ap content_of c.in-Text.is) c.loop-entry.invariant.walked c.loop-entry.invariant.length_before in
    let fits = c.requires.fits in
    omega arith
