use Rattle.std.proofs.Common.{◌<◌, length, map, take, arith}
use Rattle.std.specs.Rc.{rc_slice_items}
use Rattle.ti_text.proofs.Lists.{map-take_item}
use Rattle.base_dependents.proofs.Adding.{adds_users_of}
use Rattle.base_dependents.proofs.search.add_users_of_names.Goals as goal

pub loop-name-preserved : goal.loop-name-preserved
loop-name-preserved c =
    let within : c.loop-name.name-index < length c.args.names.now = omega arith in
    rw (map-take_item rc_slice_items c.args.names.now c.loop-name.name-index c.name-item.result within c.name-item.is)
    (adds_users_of c.args.slots.now (map rc_slice_items (take c.loop-name.name-index c.args.names.now))
    (rc_slice_items c.name-item.result) c.as_slice.result.now
    c.args.found.now.keys c.loop-name.found.keys c.add_users.new.found.keys c.loop-name.invariant c.as_slice.ensures.value c.in_ok-add_users.ensures)
