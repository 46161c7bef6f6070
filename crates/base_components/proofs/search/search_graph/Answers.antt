use Rattle.std.proofs.Common.{◌<◌, ◌∙◌, sym, refl, length, arith}
use Rattle.std.proofs.lemmas.Option.{slice_get_read, same_Some}
use Rattle.base_components.specs.inside.Search.{IsFresh}
use Rattle.base_components.specs.declared.search.Progress.TheVariants.{Unseen}
use Rattle.base_components.proofs.Searching.{met_none, met_more, met_by, met_all}
use Rattle.base_components.proofs.search.search_graph.Goals as goal
use Rattle.base_components.proofs.search.search_graph.Goals.{in-Unseen+in_ok-walk, in_default}

pub loop-root-init : goal.loop-root-init
loop-root-init c =
    let fresh : IsFresh c.in_ok-search.search (length c.args.graph.now) = rw (← c.node_count-nodes.ensures) c.in_ok-search.ensures in
    met_none c.args.graph.now c.in_ok-search.search fresh

pub walk-requires-clause-unseen : goal.walk-requires-clause-unseen
walk-requires-clause-unseen c =
    let s = c.loop-root.search in
    let within : c.loop-root.root < length s.progress.items = omega (arith, c.loop-root.invariant.idle.walk.going.nodes, c.node_count-nodes.ensures) in
    rw c.in-Unseen.is at (slice_get_read s.progress.items (length s.progress.items) c.loop-root.root c.index.result.now refl within c.index.ensures)

pub loop-root-preserved : goal.loop-root-preserved
loop-root-preserved c =
    let s = c.loop-root.search in
    let within : c.loop-root.root < length s.progress.items = omega (arith, c.loop-root.invariant.idle.walk.going.nodes, c.node_count-nodes.ensures) in
    let here = slice_get_read s.progress.items (length s.progress.items) c.loop-root.root c.index.result.now refl within c.index.ensures in
    elim c.match-index.branch [
      | in-Unseen+in_ok-walk w ↦ rw w.search-is (met_more c.args.graph.now s w.walk.new.self c.loop-root.root c.loop-root.invariant w.in_ok-walk.ensures)
      | in_default w ↦
          rw w.search-is (met_by c.args.graph.now s c.loop-root.root c.loop-root.invariant
          (λ e. w.in_default.not-Unseen (same_Some c.index.result.now Unseen (sym here ∙ e))))
    ]

pub returns : goal.returns
returns c = met_all c.args.graph.now c.loop-root.search c.loop-root.root c.loop-root.invariant (omega (arith, c.node_count-nodes.ensures))
