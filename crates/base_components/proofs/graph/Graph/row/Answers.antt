use Rattle.std.proofs.Common.{◌∙◌, sym, ap, length, arith}
use Rattle.std.specs.List.{slice_get}
use Rattle.base_components.proofs.Rows.{length-rows_of}
use Rattle.base_components.proofs.graph.Graph.row.Goals as goal

pub row_bounds-start-requires-clause-within : goal.row_bounds-start-requires-clause-within
row_bounds-start-requires-clause-within c =
    let count = length-rows_of c.self.inside.targets.items c.self.inside.starts.items in
    omega (arith, count, ap length c.self.view_is, ap length c.deref-2.ensures.value)

pub returns : goal.returns
returns c =
    let row = rw (c.deref.ensures.value, c.deref-2.ensures.value) at c.row_bounds-start.ensures.row in
    rw c.deref-3.ensures.value (ap (λ rows. slice_get rows c.args.node) (sym c.self.view_is) ∙ row)
