use Rattle.std.proofs.Common.{sym, ◌∙◌, ap, length}
use Rattle.base_components.proofs.Rows.{length-rows_of}
use Rattle.base_components.proofs.graph.Graph.node_count.Goals as goal

pub returns : goal.returns
returns c =
    c.len.ensures
    ∙ (c.self.inside.starts.ok.0 ∙ (sym (length-rows_of c.self.inside.targets.items c.self.inside.starts.items) ∙ ap length c.self.view_is))
