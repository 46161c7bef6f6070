use Rattle.std.proofs.Common.{ap, length, arith}
use Rattle.base_components.specs.inside.Search.{AreClosedNumbers, IsSearched}
use Rattle.base_components.proofs.Ending.{components_found, order_found, closed_all}
use Rattle.base_components.proofs.components.Components.find.Goals as goal

pub numbers-requires : goal.numbers-requires
numbers-requires c = λ v l.
    let searched : IsSearched c.args.graph.now c.in_ok-progress.field-0 = c.in_ok-progress.ensures in
    rw c.deref.ensures.value (closed_all c.args.graph.now c.in_ok-progress.field-0 searched v
    (omega (arith, searched.idle.walk.going.nodes, ap length c.deref.ensures.value)))

pub returns-clause-components : goal.returns-clause-components
returns-clause-components c =
    let searched : IsSearched c.args.graph.now c.in_ok-progress.field-0 = c.in_ok-progress.ensures in
    let numbers : AreClosedNumbers c.in_ok-progress.field-0.progress.items c.in_ok-component_of.component_of.items =
    rw c.deref.ensures.value at c.in_ok-component_of.ensures in
    components_found c.args.graph.now c.in_ok-progress.field-0 c.in_ok-component_of.component_of.items searched numbers

pub returns-clause-order : goal.returns-clause-order
returns-clause-order c =
    let searched : IsSearched c.args.graph.now c.in_ok-progress.field-0 = c.in_ok-progress.ensures in
    let numbers : AreClosedNumbers c.in_ok-progress.field-0.progress.items c.in_ok-component_of.component_of.items =
    rw c.deref.ensures.value at c.in_ok-component_of.ensures in
    order_found c.args.graph.now c.in_ok-progress.field-0 c.in_ok-component_of.component_of.items searched numbers
