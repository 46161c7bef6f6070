use Rattle.std.proofs.Common.{slice_get, ◌∙◌, ap}
use Rattle.base_slots.proofs.Seen.{value_ids, value_has, value_distinct}
use Rattle.base_slots.proofs.slots.Slots.position.Goals as goal

pub position-requires : goal.position-requires
position-requires c = value_has c.self.inside c.args.self.now c.args.id c.self.view_is c.self.invariant c.requires

pub returns-clause-position : goal.returns-clause-position
returns-clause-position c =
    ap (λ xs. slice_get xs c.position.result) (value_ids c.self.inside c.args.self.now c.self.view_is c.self.invariant) ∙ c.position.ensures

pub returns-clause-distinct : goal.returns-clause-distinct
returns-clause-distinct c = value_distinct c.self.inside c.args.self.now c.self.view_is c.self.invariant
