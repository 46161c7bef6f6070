use Rattle.std.proofs.Common.{sym, ◌∙◌, ap, length}
use Rattle.base_components.proofs.Rows.{length-rows_of, rows_of-push_target, AreStarts-push_target}
use Rattle.base_components.proofs.graph.Graph.add_edge.Goals as goal

pub invariant_of-self-2 : goal.invariant_of-self-2
invariant_of-self-2 c =
    rw c.in_ok-push.ensures.items (AreStarts-push_target c.self.inside.targets.items c.args.target c.self.inside.starts.items c.self.invariant)

pub returns-clause-ok : goal.returns-clause-ok
returns-clause-ok c = λ before row e.
    rw c.in_ok-push.ensures.items (rows_of-push_target c.self.inside.targets.items c.args.target c.self.inside.starts.items c.self.invariant before row
    (c.self.view_is ∙ e))

pub returns-clause-nodes : goal.returns-clause-nodes
returns-clause-nodes c =
    length-rows_of c.push.new.self.items c.self.inside.starts.items
    ∙ (sym (length-rows_of c.self.inside.targets.items c.self.inside.starts.items) ∙ ap length c.self.view_is)
