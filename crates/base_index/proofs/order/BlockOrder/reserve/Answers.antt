use Rattle.std.proofs.Common.{◌≡◌, ◌<◌, ◌^◌, ◌+◌, ◌≤◌, length, sym, ap, ◌∙◌, arith}
use Rattle.std.specs.Vec.{vec_len, vec_capacity}
use Rattle.std.proofs.lemmas.Bool.{eqb-true}
use Rattle.base_index.proofs.Keeping.{order_reserved}
use Rattle.base_index.proofs.order.BlockOrder.reserve.Goals as goal

pub invariant_of-self-then-is_empty : goal.invariant_of-self-then-is_empty
invariant_of-self-then-is_empty c =
    let o = c.self.inside in
    let few : length o.ids.items < 2 ^ 31 = omega (arith, c.requires, ap (λ x. length x.listed) c.self.view_is) in
    let empty : length o.free.items ≡ 0 = sym o.free.ok.0 ∙ eqb-true (vec_len o.free) 0 (sym c.if-is_empty.ensures) in
    let count : c.len-id.result ≡ length o.labels.items = c.len-id.ensures ∙ o.labels.ok.0 in
    let wide : length o.labels.items + 1 ≤ vec_capacity c.reserve.new.self =
    omega (arith, c.in_ok-reserve.ensures.ok, c.reserve.ensures.len, o.ids.ok.0, c.self.invariant.count) in
    let wide_free : length o.labels.items + 1 ≤ vec_capacity c.push_reserved.new.self =
    omega (arith, c.in_ok-reserve-2.ensures.ok, c.push_reserved.ensures.capacity) in
    rw (c.in_ok-push.ensures.items, c.push_reserved.ensures.items, c.reserve.ensures.items, c.reserve-then-is_empty.ensures.items, count)
    (order_reserved o.ids.items o.labels.items o.free.items (vec_capacity o.ids) (vec_capacity o.free) (vec_capacity c.reserve.new.self)
    (vec_capacity c.push_reserved.new.self) c.self.invariant empty few wide wide_free)
