use Rattle.std.proofs.Common.{◌≡◌, ◌≤◌, ◌++◌, ◌∷◌, [], length, ap, arith}
use Rattle.std.specs.Vec.{vec_capacity}
use Rattle.std.specs.List.{insert}
use Rattle.base_index.specs.inside.Labels.{AreLabelled, FitsAt}
use Rattle.ti_text.specs.Lists.{Has}
use Rattle.base_index.proofs.Keeping.{order_relabelled, order_inserted, order_fresh}
use Rattle.base_index.proofs.order.BlockOrder.insert.Goals as goal

pub invariant_of-self : goal.invariant_of-self
invariant_of-self c =
    let o = c.self.inside in
    let new = c.make_label-label.new.labels in
    let labelled : AreLabelled o.ids.items new.items = rw c.deref.ensures.value at c.make_label-label.ensures.labelled in
    let fits : FitsAt o.ids.items new.items c.args.position c.make_label-label.result = rw c.deref.ensures.value at c.make_label-label.ensures.fits in
    let many : length new.items ≡ length o.labels.items = omega (arith, c.make_label-label.ensures.len, new.ok.0, o.labels.ok.0) in
    let kept = order_relabelled o.ids.items o.labels.items new.items o.free.items (vec_capacity o.ids) (vec_capacity o.free) c.self.invariant labelled many in
    let popped : o.free.items ≡ c.pop.new.self.items ++ c.unwrap-id.result ∷ [] = rw c.unwrap-id.ensures at c.pop.ensures.items in
    let put : c.insert.new.self.items ≡ insert o.ids.items c.args.position c.unwrap-id.result = rw c.unwrap.ensures at c.insert.ensures.items in
    let within : c.args.position ≤ length o.ids.items = omega (arith, c.requires.within, ap (λ x. length x.listed) c.self.view_is) in
    rw put (order_inserted o.ids.items new.items o.free.items c.pop.new.self.items (vec_capacity o.ids) (vec_capacity o.free)
    (vec_capacity c.insert.new.self) (vec_capacity c.pop.new.self) c.args.position c.unwrap-id.result c.make_label-label.result
    kept popped within fits c.insert.ensures.capacity (omega (arith, c.pop.ensures.capacity)))

pub returns-clause-fresh : goal.returns-clause-fresh
returns-clause-fresh c = λ has.
    let o = c.self.inside in
    let popped : o.free.items ≡ c.pop.new.self.items ++ c.unwrap-id.result ∷ [] = rw c.unwrap-id.ensures at c.pop.ensures.items in
    let there : Has o.ids.items c.unwrap-id.result = rw (← c.self.view_is) at has in
    order_fresh o.ids.items o.labels.items o.free.items c.pop.new.self.items (vec_capacity o.ids)
    (vec_capacity o.free) c.unwrap-id.result c.self.invariant popped there
