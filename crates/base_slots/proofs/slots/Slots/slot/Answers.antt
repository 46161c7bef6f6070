use Rattle.std.proofs.Common.{ap, sym, ◌∙◌, arith}
use Rattle.std.specs.Option.{option_copied}
use Rattle.base_slots.proofs.Changing.{known_slot, read_slot}
use Rattle.base_slots.proofs.Seen.{has_slot, value_slot, value_distinct}
use Rattle.base_slots.proofs.slots.Slots.slot.Goals as goal

pub index-requires : goal.index-requires
index-requires c =
    let there = has_slot c.self.inside c.args.self.now c.args.id c.self.view_is c.self.invariant c.requires in
    omega (arith, known_slot c.self.inside.slots.items c.args.id there, c.self.inside.slots.ok.0)

pub unwrap-requires : goal.unwrap-requires
unwrap-requires c =
    let slots = c.self.inside.slots.items in
    let there = has_slot c.self.inside c.args.self.now c.args.id c.self.view_is c.self.invariant c.requires in
    let read = read_slot slots c.args.id c.index.result.now (known_slot slots c.args.id there) c.index.ensures in
    c.as_ref.ensures.variant ∙ (rw read at there)

pub returns-clause-slot : goal.returns-clause-slot
returns-clause-slot c = λ at stands.
    let slots = c.self.inside.slots.items in
    let there = has_slot c.self.inside c.args.self.now c.args.id c.self.view_is c.self.invariant c.requires in
    let read = read_slot slots c.args.id c.index.result.now (known_slot slots c.args.id there) c.index.ensures in
    value_slot c.self.inside c.args.self.now at c.args.id c.unwrap.result.now c.self.view_is c.self.invariant
    (read ∙ (sym c.as_ref.ensures.value ∙ ap option_copied c.unwrap.ensures)) stands

pub returns-clause-distinct : goal.returns-clause-distinct
returns-clause-distinct c = value_distinct c.self.inside c.args.self.now c.self.view_is c.self.invariant
