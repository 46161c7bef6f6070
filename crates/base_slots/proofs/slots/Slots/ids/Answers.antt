use Rattle.std.proofs.Common.{sym, ◌∙◌}
use Rattle.base_slots.proofs.Seen.{value_ids, value_distinct}
use Rattle.base_slots.proofs.slots.Slots.ids.Goals as goal

pub returns-clause-ids : goal.returns-clause-ids
returns-clause-ids c = c.ids.ensures.ids ∙ sym (value_ids c.self.inside c.args.self.now c.self.view_is c.self.invariant)

pub returns-clause-distinct : goal.returns-clause-distinct
returns-clause-distinct c = value_distinct c.self.inside c.args.self.now c.self.view_is c.self.invariant
