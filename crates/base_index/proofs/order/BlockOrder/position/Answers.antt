use Rattle.std.proofs.Common.{◌≡◌, ◌∙◌, ap}
use Rattle.base_index.proofs.Filtering.{position_is}
use Rattle.base_index.proofs.order.BlockOrder.position.Goals as goal

pub returns : goal.returns
returns c =
    let listed = c.args.self.now.listed in
    let all : c.deref.result.now ≡ listed = c.deref.ensures.value ∙ ap (λ ids. ids.listed) c.self.view_is in
    position_is listed c.args.id c.count_before.result c.requires (rw all at c.count_before.ensures.count)
