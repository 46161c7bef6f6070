use Rattle.std.proofs.Common.{sym, ◌∙◌}
use Rattle.base_components.proofs.Rows.{edges_read}
use Rattle.base_components.proofs.graph.Graph.edge_count.Goals as goal

pub overflow_sub-result : goal.overflow_sub-result
overflow_sub-result c =
    let g = c.self.inside in
    (edges_read g.targets.items g.starts.items c.args.self.now c.len.result c.index.result.now _ c.self.invariant c.self.view_is
    (c.len.ensures ∙ g.targets.ok.0) g.starts.ok.0 (sym c.is_empty.ensures ∙ c.if-is_empty.false) c.index.ensures).0

pub returns : goal.returns
returns c =
    let g = c.self.inside in
    (edges_read g.targets.items g.starts.items c.args.self.now c.len.result c.index.result.now _ c.self.invariant c.self.view_is
    (c.len.ensures ∙ g.targets.ok.0) g.starts.ok.0 (sym c.is_empty.ensures ∙ c.if-is_empty.false) c.index.ensures).1
