use Rattle.std.proofs.Common.{refl}
use Rattle.std.proofs.lemmas.List.Sorted.{IsNonDecreasingBy-from_sort}
use Rattle.base_plan.proofs.MadePlans.{planned}
use Rattle.base_plan.proofs.Steps.{steps_made}
use Rattle.base_plan.proofs.planning.make_plan.Goals as goal

pub returns : goal.returns
returns c =
    let made = c.in_ok-components.components in
    let sorted = c.sort_unstable.new.self.items in
    planned c.args.slots.now c.args.dependents made.component_of.items made.order.items c.requires c.in_ok-components.ensures.order _ refl
    c.in_ok-settled.ensures.settled c.sort_unstable.ensures.permutation
    (IsNonDecreasingBy-from_sort (λ x. x) sorted c.sort_unstable.ensures.sorted) (steps_made _ _ _ c.in_ok-settled.ensures.work)
