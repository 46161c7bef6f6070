use Rattle.std.proofs.Common.{List, ℕ, IfOk, sym, subst}
use Rattle.base_slots.specs.Positions.{ArePositions}
use Rattle.base_slots.proofs.Seen.{value_ids, value_has, value_distinct}
use Rattle.base_slots.proofs.slots.Slots.positions.Goals as goal

pub positions_of-requires : goal.positions_of-requires
positions_of-requires c = λ i id e. value_has c.self.inside c.args.self.now id c.self.view_is c.self.invariant (c.requires i id e)

pub returns-clause-positions : goal.returns-clause-positions
returns-clause-positions c =
    let P : List ℕ → Type 0 = λ listed. IfOk c.positions_of.result (λ positions. ArePositions listed c.args.ids.now positions.items) in
    subst P (sym (value_ids c.self.inside c.args.self.now c.self.view_is c.self.invariant)) c.positions_of.ensures

pub returns-clause-distinct : goal.returns-clause-distinct
returns-clause-distinct c = value_distinct c.self.inside c.args.self.now c.self.view_is c.self.invariant
