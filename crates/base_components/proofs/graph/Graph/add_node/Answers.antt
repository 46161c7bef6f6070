use Rattle.std.proofs.Common.{◌≡◌, ◌∙◌, length}
use Rattle.base_components.proofs.Rows.{rows_of-push_start, AreStarts-push_start}
use Rattle.base_components.proofs.graph.Graph.add_node.Goals as goal

pub invariant_of-self-2 : goal.invariant_of-self-2
invariant_of-self-2 c =
    let count : c.len.result ≡ length c.self.inside.targets.items = c.len.ensures ∙ c.self.inside.targets.ok.0 in
    rw (c.in_ok-push.ensures.items, count) (AreStarts-push_start c.self.inside.targets.items c.self.inside.starts.items c.self.invariant)

pub returns-clause-ok : goal.returns-clause-ok
returns-clause-ok c =
    let count : c.len.result ≡ length c.self.inside.targets.items = c.len.ensures ∙ c.self.inside.targets.ok.0 in
    rw (c.in_ok-push.ensures.items, count, ← c.self.view_is) (rows_of-push_start c.self.inside.targets.items c.self.inside.starts.items c.self.invariant)
