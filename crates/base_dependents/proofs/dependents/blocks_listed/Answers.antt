use Rattle.std.proofs.Common.{sym, ◌∙◌, ap, slice_get, arith}
use Rattle.base_dependents.proofs.dependents.blocks_listed.Goals as goal

pub graph_of_uses-requires : goal.graph_of_uses-requires
graph_of_uses-requires c = λ i id e. (i, ap (λ xs. slice_get xs i) (sym c.requires) ∙ e)

pub returns-clause-uses : goal.returns-clause-uses
returns-clause-uses c = rw (c.in_ok-ids.ensures.items, c.as_slice.ensures.keys) c.in_ok-uses.ensures.uses

pub returns-clause-all : goal.returns-clause-all
returns-clause-all c = record {
  listed = c.in_ok-ids.ensures.items ∙ (c.as_slice.ensures.keys ∙ c.requires);
  as_many = omega (arith, c.len.ensures, c.in_ok-positions.ensures.len);
  placed = λ i within. c.in_ok-positions.ensures.each i (omega (arith, within, c.len.ensures));
}

pub returns-clause-graph : goal.returns-clause-graph
returns-clause-graph c = c.in_ok-uses.ensures.graph
