use Rattle.std.proofs.Common.{◌<◌, length, map, take, sym, ◌∙◌, arith}
use Rattle.std.specs.Rc.{rc_slice_items}
use Rattle.std.proofs.lemmas.Bool.{false≢true}
use Rattle.ti_text.proofs.Lists.{map-take_item}
use Rattle.base_dependents.proofs.Adding.{adds_owned_of, adds_not_owned_of}
use Rattle.base_dependents.proofs.search.add_users_of_owned.Goals as goal
use Rattle.base_dependents.proofs.search.add_users_of_owned.Goals.{then-owns+in_ok-add_users, else-owns}

pub loop-name-preserved : goal.loop-name-preserved
loop-name-preserved c =
    let within : c.loop-name.name-index < length c.args.names.now = omega arith in
    let names = map rc_slice_items (take c.loop-name.name-index c.args.names.now) in
    rw (map-take_item rc_slice_items c.args.names.now c.loop-name.name-index c.name-item.result within c.name-item.is)
    (elim c.if-owns.branch [
      | then-owns+in_ok-add_users w ↦
          rw w.found-is
          (adds_owned_of c.args.slots.now c.args.id names (rc_slice_items c.name-item.result) c.as_slice.result.now w.as_slice-then-owns.result.now
          c.args.found.now.keys c.loop-name.found.keys w.add_users.new.found.keys c.loop-name.invariant c.as_slice.ensures.value
          (c.owns.ensures.0 w.if-owns.true)
          w.as_slice-then-owns.ensures.value w.in_ok-add_users.ensures)
      | else-owns w ↦
          rw w.found-is
          (adds_not_owned_of c.args.slots.now c.args.id names (rc_slice_items c.name-item.result) c.as_slice.result.now
          c.args.found.now.keys c.loop-name.found.keys c.loop-name.invariant c.as_slice.ensures.value
          (λ first. false≢true (sym w.if-owns.false ∙ c.owns.ensures.1 first)))
    ])
