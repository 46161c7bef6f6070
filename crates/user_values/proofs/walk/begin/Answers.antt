use Rattle.std.proofs.Common.{map, refl, sym, ap, ◌∙◌, subst}
use Rattle.base_components.specs.Graph.{IsGraph}
use Rattle.base_components.specs.Components.{AreComponents, IsClosingOrder}
use Rattle.user_items.specs.Reading.{user_reading_of}
use Rattle.user_values.specs.Uses.{rows_of}
use Rattle.user_values.proofs.Ordering.{graph_whole}
use Rattle.user_values.proofs.Walking.{order_of}
use Rattle.user_values.proofs.walk.begin.Goals as goal

pub find-requires : goal.find-requires
find-requires c =
    let db = c.args.database.now.texts in
    subst IsGraph (sym (c.in_ok-uses.ensures ∙ ap (rows_of db) (ap (map user_reading_of) c.deref.ensures.value ∙ c.requires))) (graph_whole db)

pub last_uses-requires-clause-whole : goal.last_uses-requires-clause-whole
last_uses-requires-clause-whole c =
    let db = c.args.database.now.texts in
    subst IsGraph (sym (c.in_ok-uses.ensures ∙ ap (rows_of db) (ap (map user_reading_of) c.deref.ensures.value ∙ c.requires))) (graph_whole db)

pub returns : goal.returns
returns c =
    let db = c.args.database.now.texts in
    let is = c.in_ok-uses.ensures ∙ ap (rows_of db) (ap (map user_reading_of) c.deref.ensures.value ∙ c.requires) in
    let comps = c.in_ok-components.components.component_of.items in
    let order = c.in_ok-components.components.order.items in
    let are = subst (λ g. AreComponents g comps) is c.in_ok-components.ensures.components in
    let closing = subst (λ g. IsClosingOrder g comps order) is c.in_ok-components.ensures.order in
    record { by_rule = refl; same = refl; all = order_of db comps order are closing; none = refl }
