use Rattle.std.proofs.Common.{map, ◌∙◌, ap}
use Rattle.std.specs.Rc.{rc_slice_items}
use Rattle.base_dependents.proofs.Adding.{adds_with_users}
use Rattle.base_dependents.proofs.search.add_with_users.Goals as goal

pub returns : goal.returns
returns c =
    adds_with_users c.args.slots.now c.args.id (map rc_slice_items c.deref.result.now) c.args.found.now.keys c.insert.new.self.keys
    c.add_users_of_names.new.found.keys
    c.in_ok-insert.ensures.keys c.in_ok-add_users_of_names.ensures (ap (map rc_slice_items) c.deref.ensures.value ∙ ap (λ r. r.names) c.block_of.ensures.block)
