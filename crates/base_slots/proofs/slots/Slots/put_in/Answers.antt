use Rattle.std.proofs.Common.{◌≡◌, ◌≤◌, ℕ, List, Some, not, nat_eq, ◌&&◌, length, refl, arith}
use Rattle.std.specs.List.{insert}
use Rattle.std.specs.Vec.{with_item}
use Rattle.ti_source.specs.Reading.{reading_of}
use Rattle.base_meaning.proofs.Leading.{any_use-used}
use Rattle.ti_text.specs.Lists.{Has}
use Rattle.ti_source.specs.declared.parsing.Parsed.{Parsed}
use Rattle.base_slots.specs.declared.indexing.Role.{Role}
use Rattle.base_slots.specs.declared.indexing.Role.TheVariants.{Holder, User}
use Rattle.base_slots.specs.declared.slots.Slots.TheInside.{Inside}
use Rattle.base_slots.specs.inside.Indexing.{says_of, ids_at, HasRoomAt, IsPart}
use Rattle.base_slots.specs.inside.Fields.{has_stored, uses_stored, IsIndexed}
use Rattle.base_slots.proofs.Listings.{get-inserted}
use Rattle.base_slots.proofs.Changing.{HasRoomStored, holders_before, users_before, put_indexed}
use Rattle.base_slots.proofs.Seen.{value_length}
use Rattle.base_slots.proofs.Made.{value_room, put_shown}
use Rattle.base_slots.proofs.slots.Slots.put_in.Goals as goal

pub insert-id-requires-clause-within : goal.insert-id-requires-clause-within
insert-id-requires-clause-within c = omega (arith, c.requires.within, value_length c.self.inside c.args.self.now c.self.view_is c.self.invariant)

-- the place of the id now
stands_now : (listed new : List ℕ) (at id : ℕ) → at ≤ length listed → new ≡ insert listed at id → Has new id
stands_now listed new at id within e = (at, rw e (get-inserted listed at id within))

pub add-requires-clause-stands : goal.add-requires-clause-stands
add-requires-clause-stands c =
    stands_now c.self.inside.order.listed c.insert-id.new.self.listed c.args.at c.insert-id.result
    (omega (arith, c.requires.within, value_length c.self.inside c.args.self.now c.self.view_is c.self.invariant)) c.insert-id.ensures.listed

parts : (slots : Inside) (listed : List ℕ) (at id : ℕ) → IsIndexed slots → listed ≡ insert slots.order.listed at id → (Has slots.order.listed id → ⊥)
    → (role : Role) (name : List ℕ) → IsPart listed (ids_at role slots.names name)
parts slots listed at id h e fresh Holder name =
    ((λ x. not (nat_eq x id) && has_stored slots.slots.items name x), holders_before slots listed at id h e fresh name)
parts slots listed at id h e fresh User name =
    ((λ x. not (nat_eq x id) && uses_stored slots.slots.items name x), users_before slots listed at id h e fresh name)

pub add-requires-clause-parts : goal.add-requires-clause-parts
add-requires-clause-parts c =
    parts c.self.inside c.insert-id.new.self.listed c.args.at c.insert-id.result c.self.invariant c.insert-id.ensures.listed c.insert-id.ensures.fresh

room : (slots : Inside) (block : Parsed) → HasRoomStored slots (reading_of block) → HasRoomAt (says_of block) slots.names
room slots block h Holder name said = h.holders name said
room slots block h User name said = h.users name (any_use-used name (reading_of block).items said)

pub add-requires-clause-room : goal.add-requires-clause-room
add-requires-clause-room c = room c.self.inside c.args.slot.block
    (value_room c.self.inside c.args.self.now (reading_of c.args.slot.block) c.self.view_is c.self.invariant c.requires.room)

pub invariant_of-self : goal.invariant_of-self
invariant_of-self c =
    put_indexed c.self.inside _ c.args.at c.insert-id.result c.args.slot c.self.invariant
    (record {
      within = omega (arith, c.requires.within, value_length c.self.inside c.args.self.now c.self.view_is c.self.invariant);
      listed = c.insert-id.ensures.listed;
      free = c.insert-id.ensures.free;
      fresh = c.insert-id.ensures.fresh;
      known = omega (arith, c.insert-id.ensures.known, c.self.invariant.places);
      slots = refl;
      names = c.add.ensures;
    })

pub returns : goal.returns
returns c =
    let new : Inside =
    record { order = c.insert-id.new.self; names = c.add.new.index; slots = with_item c.self.inside.slots c.insert-id.result (Some c.args.slot) } in
    put_shown c.self.inside new c.args.self.now c.args.at c.insert-id.result c.args.slot c.self.view_is c.self.invariant
    (record {
      within = omega (arith, c.requires.within, value_length c.self.inside c.args.self.now c.self.view_is c.self.invariant);
      listed = c.insert-id.ensures.listed;
      free = c.insert-id.ensures.free;
      fresh = c.insert-id.ensures.fresh;
      known = omega (arith, c.insert-id.ensures.known, c.self.invariant.places);
      slots = refl;
      names = c.add.ensures;
    })
