use Rattle.std.proofs.Common.{arith, ap, sym, ◌∙◌, ◌++◌, ◌∷◌, [], length}
use Rattle.ti_layout.specs.declared.layout.Format.TheVariants.{Legacy}
use Rattle.ti_layout.specs.Layout.{number_section}
use Rattle.user_extension.specs.Extension.{places, table, text_part, texts}
use Rattle.user_extension.proofs.Fronts.{begun, blank, front, no_text, number_put, passed, text_here}
use Rattle.user_extension.proofs.writing.push_value_places.Goals.{in-Text+in_ok-push_number, in_default}
use Rattle.user_extension.proofs.writing.push_value_places.Goals as goal

pub loop-row-init : goal.loop-row-init
loop-row-init c = record { so_far = begun Legacy _; counted = omega arith }

pub overflow_cast-offset : goal.overflow_cast-offset
overflow_cast-offset c =
    let next = text_here _ _ _ blank c.loop-row-test.true c.in-Text.is in
    omega (arith, next.fits, c.requires, c.loop-row.invariant.counted)

pub overflow_add-offset : goal.overflow_add-offset
overflow_add-offset c =
    let next = text_here _ _ _ blank c.loop-row-test.true c.in-Text.is in
    omega (arith, next.fits, c.requires, c.loop-row.invariant.counted)

pub overflow_add-offset-in-Text : goal.overflow_add-offset-in-Text
overflow_add-offset-in-Text c =
    let next = text_here _ _ _ blank c.loop-row-test.true c.in-Text.is in
    omega (arith, next.fits, c.requires, c.loop-row.invariant.counted)

pub loop-row-preserved : goal.loop-row-preserved
loop-row-preserved c =
    let rows = c.args.rows.now in
    let k = c.loop-row.row-index in
    let i = c.loop-row.invariant in
    elim c.match-row.branch [
      | in-Text+in_ok-push_number w ↦
          let next = text_here rows k _ blank c.loop-row-test.true w.in-Text.is in
          record {
            so_far = ap (λ im. im.items) w.image-is
                ∙ number_put Legacy _ _ _ _ _ c.loop-row.offset i.so_far w.in_ok-push_number.ensures
                (next.places_are ∙ ap (λ n. places 0 (texts (front k rows)) ++ n ∷ []) (sym i.counted));
            counted = omega (arith, next.size, i.counted, w.offset-is);
          }
      | in_default w ↦
          let same = passed (λ v. text_part v.1) rows k blank c.loop-row-test.true (no_text _ w.in_default.not-Text) in
          record {
            so_far = ap (λ im. im.items) w.image-is ∙ i.so_far ∙ ap (λ ts. c.args.image.now.items ++ number_section Legacy (places 0 ts)) (sym same);
            counted = w.offset-is ∙ i.counted ∙ ap (λ ts. length (table ts)) (sym same);
          }
    ]
