use Rattle.std.proofs.Common.{◌≡◌, ℕ, ◌+◌, List, Some, slice_get, ap, ◌∙◌, subst, arith}
use Rattle.user_values.specs.Tables.{HasUserTableBy}
use Rattle.user_values.specs.Walking.{TablesSeen}
use Rattle.user_values.proofs.Ordering.{graph_length}
use Rattle.user_values.proofs.Walking.{found_in}
use Rattle.user_values.proofs.walk.UserTables.table.Goals as goal

pub returns-else-index-self : goal.returns-else-index-self
returns-else-index-self c =
    let view = c.self.view_is in
    let before = c.requires.before in
    let made : c.self.inside.made ≡ before + 1 = ap (λ (s : TablesSeen). s.made) view ∙ c.requires.one_more in
    let here : slice_get c.self.inside.components.order.items before ≡ Some c.args.at = ap (λ (s : TablesSeen). slice_get s.order before) view ∙ c.requires.here in
    let inv = c.self.invariant in
    let below = inv.closing.nodes before c.args.at here in
    subst (λ (s : TablesSeen). (text : List ℕ) → slice_get s.texts c.args.at ≡ Some text → HasUserTableBy s.rule s.texts text c.index-else-index-self.result.now) view
    (λ text stands. c.self.invariant.are_kept.done before c.args.at c.index.result.now text c.index-else-index-self.result.now (omega (arith, made)) here
    (found_in c.self.inside.last.items c.args.at c.index.result.now c.index.ensures (omega (arith, inv.are_last.as_many, below)))
    (omega (arith, c.if-index-self.false)) stands
    (found_in c.self.inside.tables.items c.args.at c.index-else-index-self.result.now c.index-else-index-self.ensures
    (omega (arith, inv.are_kept.as_many, graph_length c.self.inside.database.now.texts, below))))
