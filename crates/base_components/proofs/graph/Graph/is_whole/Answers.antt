use Rattle.std.proofs.Common.{◌≡◌, inl, inr, refl, sym, ◌∙◌, arith}
use Rattle.std.proofs.lemmas.Bool.{cases_eq, false≢true}
use Rattle.std.proofs.lemmas.Option.{same_Some, slice_get_within}
use Rattle.base_components.proofs.graph.Graph.is_whole.Goals as goal

pub returns-then-not-is_row_below : goal.returns-then-not-is_row_below
returns-then-not-is_row_below c = (
  (λ t. absurd (false≢true t)),
  λ whole. c.if-not-is_row_below.ensures.1 (λ k to e.
      let within = whole c.loop-node.node to (record { row = c.row.result.now; place = k; stands = c.row.ensures; leads = e }) in
      omega (arith, c.node_count.ensures)),
)

pub loop-node-preserved : goal.loop-node-preserved
loop-node-preserved c = λ from to l edge.
    elim (cases_eq from c.loop-node.node) [
      | inl same ↦
          let row : edge.row ≡ c.row.result.now = same_Some edge.row c.row.result.now (sym edge.stands ∙ (rw same c.row.ensures)) in
          let below = c.if-not-is_row_below.ensures.0 refl edge.place to (rw row at edge.leads) in
          omega (arith, c.node_count.ensures)
      | inr other ↦ c.loop-node.invariant from to (omega arith) edge
    ]

pub returns : goal.returns
returns c = (
  (λ t. λ from to edge. c.loop-node.invariant from to
      (omega (arith, slice_get_within c.args.self.now from edge.row edge.stands, c.node_count-node-end.ensures)) edge),
  λ whole. refl,
)
