use Rattle.std.proofs.Common.{Some, refl, sym, ◌∙◌, ap, arith}
use Rattle.std.specs.Option.{option_copied_mut}
use Rattle.std.specs.Vec.{with_item}
use Rattle.base_slots.specs.declared.slots.Slots.TheInside.{Inside}
use Rattle.base_slots.specs.Slots.{settled_in}
use Rattle.base_slots.proofs.Changing.{known_slot, read_slot}
use Rattle.base_slots.proofs.Seen.{has_slot}
use Rattle.base_slots.proofs.Made.{settled_indexed, settled_shown}
use Rattle.base_slots.proofs.slots.Slots.exchange_settled.Goals as goal

pub index_mut-requires : goal.index_mut-requires
index_mut-requires c =
    let there = has_slot c.self.inside c.args.self.now c.args.id c.self.view_is c.self.invariant c.requires in
    omega (arith, known_slot c.self.inside.slots.items c.args.id there, c.self.inside.slots.ok.0)

pub unwrap-slot-requires : goal.unwrap-slot-requires
unwrap-slot-requires c =
    let slots = c.self.inside.slots.items in
    let there = has_slot c.self.inside c.args.self.now c.args.id c.self.view_is c.self.invariant c.requires in
    let read = read_slot slots c.args.id c.index_mut.result.now (known_slot slots c.args.id there) c.index_mut.ensures.value in
    c.as_mut.ensures.variant ∙ (rw read at there)

pub invariant_of-self : goal.invariant_of-self
invariant_of-self c =
    let slots = c.self.inside.slots.items in
    let there = has_slot c.self.inside c.args.self.now c.args.id c.self.view_is c.self.invariant c.requires in
    let known = known_slot slots c.args.id there in
    let read = read_slot slots c.args.id c.index_mut.result.now known c.index_mut.ensures.value in
    settled_indexed c.self.inside _ c.args.id c.unwrap-slot.result.now c.swap.new.x c.self.invariant
    (record { order = refl; names = refl; was = read ∙ (sym c.as_mut.ensures.value ∙ ap option_copied_mut c.unwrap-slot.ensures); known = known; slots = refl })

pub returns : goal.returns
returns c =
    let slots = c.self.inside.slots.items in
    let there = has_slot c.self.inside c.args.self.now c.args.id c.self.view_is c.self.invariant c.requires in
    let known = known_slot slots c.args.id there in
    let read = read_slot slots c.args.id c.index_mut.result.now known c.index_mut.ensures.value in
    let new : Inside = record {
      order = c.self.inside.order;
      names = c.self.inside.names;
      slots =
          with_item c.self.inside.slots c.args.id
          (Some (record { text = c.unwrap-slot.result.now.text; block = c.unwrap-slot.result.now.block; settled = c.swap.new.x }));
    } in
    settled_shown c.self.inside new c.args.self.now c.args.id c.unwrap-slot.result.now c.swap.new.x c.self.view_is c.self.invariant
    (record { order = refl; names = refl; was = read ∙ (sym c.as_mut.ensures.value ∙ ap option_copied_mut c.unwrap-slot.ensures); known = known; slots = refl })
    ∙ ap (λ s. settled_in c.args.self.now c.args.id s) c.swap.ensures.x_after
