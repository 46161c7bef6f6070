use Rattle.std.proofs.Common.{sym, ◌∙◌, ap}
use Rattle.base_slots.specs.declared.slots.Slots.{Slots}
use Rattle.base_slots.specs.Slots.{holders_of}
use Rattle.base_slots.proofs.Seen.{holders_seen}
use Rattle.base_slots.proofs.slots.Slots.holders.Goals as goal

pub returns : goal.returns
returns c =
    c.holders.ensures ∙ (sym (holders_seen c.self.inside c.args.name.now c.self.invariant) ∙ ap (λ (v : Slots). holders_of v c.args.name.now) c.self.view_is)
