use Rattle.std.proofs.Common.{arith, ◌∷◌, [], ap, sym, ◌∙◌, ◌++◌}
use Rattle.ti_layout.specs.declared.layout.Format.TheVariants.{Legacy}
use Rattle.user_extension.proofs.Fronts.{begun, blank, front, name_next, number_put}
use Rattle.user_extension.specs.Extension.{names, places}
use Rattle.user_extension.proofs.writing.push_name_places.Goals as goal

pub loop-row-init : goal.loop-row-init
loop-row-init c = record { so_far = begun Legacy _; counted = omega arith }

pub overflow_cast-offset : goal.overflow_cast-offset
overflow_cast-offset c =
    let next = name_next c.args.rows.now c.loop-row.row-index blank c.loop-row-test.true in
    omega (arith, next.fits, c.requires, c.loop-row.invariant.counted)

pub overflow_add-offset-in-loop-row : goal.overflow_add-offset-in-loop-row
overflow_add-offset-in-loop-row c =
    let next = name_next c.args.rows.now c.loop-row.row-index blank c.loop-row-test.true in
    omega (arith, next.fits, c.requires, c.loop-row.invariant.counted)

pub loop-row-preserved : goal.loop-row-preserved
loop-row-preserved c =
    let rows = c.args.rows.now in
    let k = c.loop-row.row-index in
    let next = name_next rows k blank c.loop-row-test.true in
    record {
      so_far = number_put Legacy _ _ _ _ _ c.loop-row.offset c.loop-row.invariant.so_far c.in_ok-push_number.ensures
          (next.places_are ∙ ap (λ n. places 0 (names (front k rows)) ++ n ∷ []) (sym c.loop-row.invariant.counted));
      counted = omega (arith, next.size, c.loop-row.invariant.counted);
    }
