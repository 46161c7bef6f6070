use Rattle.std.proofs.Common.{length, ◌∙◌, ap}
use Rattle.base_slots.proofs.Owners.{length_ids}
use Rattle.base_slots.proofs.slots.Slots.len.Goals as goal

pub returns : goal.returns
returns c = ap length c.ids.ensures.ids ∙ length_ids c.args.self.now
