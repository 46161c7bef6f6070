use Rattle.std.proofs.Common.{◌≡◌, Some, ap, ◌∙◌}
use Rattle.std.specs.List.{slice_get}
use Rattle.std.proofs.lemmas.Bool.{ltb-true, lt-ltb}
use Rattle.std.proofs.lemmas.List.{get_or_read}
use Rattle.base_index.proofs.Placing.{labels_decide_before}
use Rattle.base_index.proofs.order.BlockOrder.is_before.Goals as goal

pub returns : goal.returns
returns c = λ i j e f.
    let o = c.self.inside in
    let one_here : slice_get o.ids.items i ≡ Some c.args.one = ap (λ x. slice_get x.listed i) c.self.view_is ∙ e in
    let other_here : slice_get o.ids.items j ≡ Some c.args.other = ap (λ x. slice_get x.listed j) c.self.view_is ∙ f in
    let decided = labels_decide_before o.ids.items o.labels.items i j c.args.one c.args.other c.self.invariant.labelled c.self.invariant.ids_known one_here
    other_here in
    let one = get_or_read o.labels.items c.args.one c.index.result.now (c.self.invariant.ids_known i c.args.one one_here) c.index.ensures 0 in
    let other = get_or_read o.labels.items c.args.other c.index-2.result.now (c.self.invariant.ids_known j c.args.other other_here) c.index-2.ensures 0 in (
      (λ t. decided.0 (rw (← one, ← other) (ltb-true c.index.result.now c.index-2.result.now t))),
      λ l. lt-ltb c.index.result.now c.index-2.result.now (rw (one, other) (decided.1 l)),
    )
