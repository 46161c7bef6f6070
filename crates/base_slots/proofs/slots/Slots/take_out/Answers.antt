use Rattle.std.proofs.Common.{rules, ◌≡◌, ◌<◌, ℕ, List, length, get_or, set, [], ◌∷◌, ◌++◌, Some, slice_get, sym, ◌∙◌, ap, arith}
use Rattle.std.specs.Option.{IsSome}
use Rattle.std.specs.Vec.{with_item}
use Rattle.std.proofs.lemmas.Option.{slice_get-get_or, same_Some}
use Rattle.base_index.proofs.Naming.{fitting_lists}
use Rattle.base_slots.specs.declared.indexing.Role.{Role}
use Rattle.base_slots.specs.declared.indexing.Role.TheVariants.{Holder, User}
use Rattle.base_slots.specs.declared.slots.Slots.TheInside.{Inside}
use Rattle.base_slots.specs.inside.Indexing.{ids_at, IsPart}
use Rattle.base_slots.specs.inside.Fields.{slot_stored, has_stored, uses_stored, IsIndexed}
use Rattle.base_slots.proofs.Changing.{taken_indexed, known_slot, read_slot}
use Rattle.base_slots.proofs.Seen.{value_length}
use Rattle.base_slots.proofs.Made.{taken_shown}
use Rattle.base_slots.proofs.slots.Slots.take_out.Goals as goal

-- the id that was read is there
stood_at : (listed ids : List ℕ) (at : ℕ) → ids ≡ listed → at < length listed → slice_get listed at ≡ Some (get_or ids at 0)
stood_at listed ids at e l = rw e (slice_get-get_or listed at 0 l)

pub bounds-ids-at : goal.bounds-ids-at
bounds-ids-at c = omega (arith, c.requires, value_length c.self.inside c.args.self.now c.self.view_is c.self.invariant, ap length c.ids.ensures.ids)

pub offset_bounds-ids-at : goal.offset_bounds-ids-at
offset_bounds-ids-at c =
    let within : c.args.at < length c.ids.result.now =
    omega (arith, c.requires, value_length c.self.inside c.args.self.now c.self.view_is c.self.invariant, ap length c.ids.ensures.ids) in
    search rules

pub index_mut-requires : goal.index_mut-requires
index_mut-requires c =
    let listed = c.self.inside.order.listed in
    let within : c.args.at < length listed = omega (arith, c.requires, value_length c.self.inside c.args.self.now c.self.view_is c.self.invariant) in
    let stood = stood_at listed c.ids.result.now c.args.at c.ids.ensures.ids within in
    let filled = c.self.invariant.filled c.args.at (get_or c.ids.result.now c.args.at 0) stood in
    omega (arith, known_slot c.self.inside.slots.items (get_or c.ids.result.now c.args.at 0) filled, c.self.inside.slots.ok.0)

pub unwrap-slot-requires : goal.unwrap-slot-requires
unwrap-slot-requires c =
    let slots = c.self.inside.slots.items in
    let listed = c.self.inside.order.listed in
    let id = get_or c.ids.result.now c.args.at 0 in
    let within : c.args.at < length listed = omega (arith, c.requires, value_length c.self.inside c.args.self.now c.self.view_is c.self.invariant) in
    let stood = stood_at listed c.ids.result.now c.args.at c.ids.ensures.ids within in
    let filled : IsSome (slot_stored slots id) = c.self.invariant.filled c.args.at id stood in
    let read = read_slot slots id c.index_mut.result.now (known_slot slots id filled) c.index_mut.ensures.value in
    rw c.take.ensures.value (rw read at filled)

pub remove-requires-clause-stands : goal.remove-requires-clause-stands
remove-requires-clause-stands c =
    let within : c.args.at < length c.self.inside.order.listed =
    omega (arith, c.requires, value_length c.self.inside c.args.self.now c.self.view_is c.self.invariant) in
    (c.args.at, stood_at c.self.inside.order.listed c.ids.result.now c.args.at c.ids.ensures.ids within)

parts : (slots : Inside) → IsIndexed slots → (role : Role) (name : List ℕ) → IsPart slots.order.listed (ids_at role slots.names name)
parts slots h Holder name = (has_stored slots.slots.items name, h.holders name)
parts slots h User name = (uses_stored slots.slots.items name, h.users name)

pub remove-requires-clause-parts : goal.remove-requires-clause-parts
remove-requires-clause-parts c = parts c.self.inside c.self.invariant

pub remove-requires-2 : goal.remove-requires-2
remove-requires-2 c = omega (arith, c.requires, value_length c.self.inside c.args.self.now c.self.view_is c.self.invariant)

pub invariant_of-self : goal.invariant_of-self
invariant_of-self c =
    let slots = c.self.inside.slots.items in
    let listed = c.self.inside.order.listed in
    let one = get_or c.ids.result.now c.args.at 0 in
    let within : c.args.at < length listed = omega (arith, c.requires, value_length c.self.inside c.args.self.now c.self.view_is c.self.invariant) in
    let stood = stood_at listed c.ids.result.now c.args.at c.ids.ensures.ids within in
    let filled : IsSome (slot_stored slots one) = c.self.invariant.filled c.args.at one stood in
    let known = known_slot slots one filled in
    let read = read_slot slots one c.index_mut.result.now known c.index_mut.ensures.value in
    let freed : c.remove-2.result ≡ one = same_Some c.remove-2.result one (sym c.remove-2.ensures.id ∙ stood) in
    taken_indexed c.self.inside _ c.args.at one c.unwrap-slot.result c.self.invariant
    (record {
      stood = stood;
      distinct = c.ids.ensures.distinct;
      listed = c.remove-2.ensures.listed;
      free = c.remove-2.ensures.free ∙ ap (λ x. c.self.inside.order.free ++ x ∷ []) freed;
      was = read ∙ (sym c.take.ensures.value ∙ c.unwrap-slot.ensures);
      known = known;
      slots = ap (set slots one) c.take.ensures.after;
      names = c.remove.ensures;
    })

pub returns : goal.returns
returns c =
    let slots = c.self.inside.slots.items in
    let listed = c.self.inside.order.listed in
    let one = get_or c.ids.result.now c.args.at 0 in
    let within : c.args.at < length listed = omega (arith, c.requires, value_length c.self.inside c.args.self.now c.self.view_is c.self.invariant) in
    let stood = stood_at listed c.ids.result.now c.args.at c.ids.ensures.ids within in
    let filled : IsSome (slot_stored slots one) = c.self.invariant.filled c.args.at one stood in
    let known = known_slot slots one filled in
    let read = read_slot slots one c.index_mut.result.now known c.index_mut.ensures.value in
    let freed : c.remove-2.result ≡ one = same_Some c.remove-2.result one (sym c.remove-2.ensures.id ∙ stood) in
    let new : Inside = record { order = c.remove-2.new.self; names = c.remove.new.index; slots = with_item c.self.inside.slots one c.take.new.self } in
    taken_shown c.self.inside new c.args.self.now c.args.at one c.unwrap-slot.result c.self.view_is c.self.invariant
    (record {
      stood = stood;
      distinct = c.ids.ensures.distinct;
      listed = c.remove-2.ensures.listed;
      free = c.remove-2.ensures.free ∙ ap (λ x. c.self.inside.order.free ++ x ∷ []) freed;
      was = read ∙ (sym c.take.ensures.value ∙ c.unwrap-slot.ensures);
      known = known;
      slots = ap (set slots one) c.take.ensures.after;
      names = c.remove.ensures;
    })
    (fitting_lists.holders c.self.inside.names) (fitting_lists.users c.self.inside.names)
