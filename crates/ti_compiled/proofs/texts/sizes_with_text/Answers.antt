use Rattle.std.proofs.Common.{length, refl, arith, length-append, None, ◌∷◌, [], Some}
use Rattle.ti_compiled.proofs.TextPlaces.{texts_within}
use Rattle.ti_compiled.proofs.TextSizes.{text_order, removed_le, sizes_given, sizes_other, sizes_last}
use Rattle.ti_compiled.proofs.texts.sizes_with_text.Goals as goal
use Rattle.ti_compiled.proofs.texts.sizes_with_text.Goals.{then-index-old, else-index-old}

pub overflow_sub-others : goal.overflow_sub-others
overflow_sub-others c = text_order c.args.bytes.now c.requires.image c.args.old.now c.requires.old c.args.index c.requires.index None
    c.start_of-start.result c.start_of-end.result c.start_of-start.ensures c.start_of-end.ensures

pub overflow_sub-others-2 : goal.overflow_sub-others-2
overflow_sub-others-2 c = removed_le c.args.bytes.now c.requires.image c.args.old.now c.requires.old c.args.index c.requires.index None
    c.start_of-start.result c.start_of-end.result c.start_of-start.ensures c.start_of-end.ensures

pub last_there-requires : goal.last_there-requires
last_there-requires c =
    let w = texts_within c.args.bytes.now c.requires.image c.args.old.now c.requires.old in
    let e = c.offsets_offset.ensures in
    let t = c.if-index-old.true in
    omega arith

pub returns-in-Some : goal.returns-in-Some
returns-in-Some c =
    rw c.in-Some.is (sizes_given c.args.bytes.now c.requires.image c.args.old.now c.requires.old c.args.index c.requires.index
    (Some c.in-Some.text.now) c.start_of-start.result c.start_of-end.result c.start_of-start.ensures c.start_of-end.ensures
    c.max.result c.saturating_add.result (length c.in-Some.text.now) refl c.max.ensures c.saturating_add.ensures
    (length-append c.in-Some.text.now (0 ∷ [])) c.saturating_add-in-Some.result c.saturating_add-in-Some.ensures)

pub returns-after-index-old : goal.returns-after-index-old
returns-after-index-old c =
    let b = c.args.bytes.now in
    let h = c.args.old.now in
    elim c.if-index-old.branch [
      | then-index-old w ↦
          let last = w.last_there.ensures in
          rw (c.in-None.is, w.result-is)
          (sizes_last b c.requires.image h c.requires.old c.args.index c.requires.index None c.start_of-start.result c.start_of-end.result
          c.start_of-start.ensures c.start_of-end.ensures refl
          w.offsets_offset.result w.last_there.result w.offsets_offset.ensures w.if-index-old.true last.within last.last last.past)
      | else-index-old w ↦
          rw (c.in-None.is, w.result-is)
          (sizes_other b c.requires.image h c.requires.old c.args.index c.requires.index None c.start_of-start.result c.start_of-end.result
          c.start_of-start.ensures c.start_of-end.ensures refl w.if-index-old.false)
    ]
