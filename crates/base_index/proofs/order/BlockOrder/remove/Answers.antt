use Rattle.std.proofs.Common.{◌<◌, length, ap, refl, arith}
use Rattle.std.specs.Vec.{vec_capacity}
use Rattle.std.proofs.lemmas.Option.{slice_get_read}
use Rattle.base_index.proofs.Keeping.{order_removed}
use Rattle.base_index.proofs.order.BlockOrder.remove.Goals as goal

pub invariant_of-self : goal.invariant_of-self
invariant_of-self c =
    let o = c.self.inside in
    let within : c.args.position < length o.ids.items = omega (arith, c.requires, ap (λ x. length x.listed) c.self.view_is) in
    let here = slice_get_read o.ids.items (length o.ids.items) c.args.position c.remove-id.result refl within c.remove-id.ensures.value in
    rw (c.remove-id.ensures.items, c.push_reserved.ensures.items)
    (order_removed o.ids.items o.labels.items o.free.items (vec_capacity o.ids) (vec_capacity o.free) (vec_capacity c.remove-id.new.self)
    (vec_capacity c.push_reserved.new.self) c.args.position c.remove-id.result
    c.self.invariant here (omega (arith, c.remove-id.ensures.capacity)) (omega (arith, c.push_reserved.ensures.capacity)))

pub returns-clause-id : goal.returns-clause-id
returns-clause-id c =
    let o = c.self.inside in
    let within : c.args.position < length o.ids.items = omega (arith, c.requires, ap (λ x. length x.listed) c.self.view_is) in
    rw (← c.self.view_is) (slice_get_read o.ids.items (length o.ids.items) c.args.position c.remove-id.result refl within c.remove-id.ensures.value)
