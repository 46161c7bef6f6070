use Rattle.std.proofs.Common.{sym, ◌∙◌, ap}
use Rattle.base_slots.specs.declared.slots.Slots.{Slots}
use Rattle.base_slots.specs.Slots.{users_of}
use Rattle.base_slots.proofs.Seen.{users_seen}
use Rattle.base_slots.proofs.slots.Slots.users.Goals as goal

pub returns : goal.returns
returns c =
    c.users.ensures ∙ (sym (users_seen c.self.inside c.args.name.now c.self.invariant) ∙ ap (λ (v : Slots). users_of v c.args.name.now) c.self.view_is)
