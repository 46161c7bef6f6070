use Rattle.std.proofs.Common.{◌≡◌, ◌+◌, ◌++◌, ◌∷◌, [], sym, subst, arith, List, ℕ, Some, take, slice_get, slice_index_or}
use Rattle.std.proofs.lemmas.Option.{slice_get-get_or, get_or_from_slice_get}
use Rattle.ti_text.proofs.Lists.{take_item}
use Rattle.user_values.specs.inside.Walking.{AreLast}
use Rattle.user_values.proofs.Walking.{one_more_last, taken}
use Rattle.user_values.proofs.walk.last_uses.Goals as goal

pub note_uses-requires : goal.note_uses-requires
note_uses-requires c = λ k to e.
    omega (arith, c.loop-place.invariant.as_many, c.requires.whole _ to (record { row = c.row.result.now; place = k; stands = c.row.ensures; leads = e }))

pub loop-place-preserved : goal.loop-place-preserved
loop-place-preserved c =
    let order = c.args.order.now in
    let place = c.loop-place.place in
    let node = slice_index_or order place 0 in
    let listed : slice_get order place ≡ Some node = slice_get-get_or order place 0 c.loop-place-test.true in
    let more : take (place + 1) order ≡ take place order ++ node ∷ [] =
    take_item order place node c.loop-place-test.true (sym (get_or_from_slice_get order place node node listed)) in
    subst (λ (xs : List ℕ). AreLast c.args.uses.now xs c.note_uses.new.last.items) (sym more)
    (one_more_last c.args.uses.now (take place order) node c.row.result.now place c.loop-place.last.items c.note_uses.new.last.items c.loop-place.invariant
    c.row.ensures (taken order place c.loop-place-test.true) c.note_uses.ensures)
