use Rattle.std.proofs.Common.{◌++◌, ap, sym, subst, ◌∙◌, refl}
use Rattle.ti_caps.specs.declared.capability.Kind.TheVariants.{Text}
use Rattle.ti_layout.specs.Values.{content_of}
use Rattle.ti_layout.proofs.WrittenSections.{HasTexts, texts_begun, texts_done, text_put, no_text, passed, all_past}
use Rattle.ti_layout.proofs.writing.push_texts.Goals.{in-Text+in_ok-extend_from_slice+in_ok-push, in_default}
use Rattle.ti_layout.proofs.writing.push_texts.Goals as goal

pub loop-entry-init : goal.loop-entry-init
loop-entry-init c = texts_begun _ _

pub loop-entry-preserved : goal.loop-entry-preserved
loop-entry-preserved c = elim c.match-entry.branch [
  | in-Text+in_ok-extend_from_slice+in_ok-push w ↦
      subst (λ im. HasTexts _ _ im.items _) (sym w.image-is) (text_put _ c.requires _ _ _ c.loop-entry-test.true c.entry-item.is _ _ _ _ _
      (ap content_of w.in-Text.is) c.loop-entry.invariant.walked c.loop-entry.invariant.so_far
      (w.in_ok-extend_from_slice.ensures.items ∙ ap (λ t. c.loop-entry.image.items ++ t) w.as_slice.ensures.value) w.in_ok-push.ensures.items)
  | in_default w ↦
      record {
        places = c.loop-entry.invariant.places;
        walked = passed _ c.requires _ _ _ c.loop-entry-test.true c.entry-item.is Text _ c.loop-entry.invariant.walked (no_text _ w.in_default.not-Text) refl;
        so_far = rw w.image-is c.loop-entry.invariant.so_far;
      }
]

pub returns : goal.returns
returns c = texts_done _ c.requires _ _ _ (all_past _ _ c.loop-entry-test.false) c.loop-entry.invariant
