use Rattle.std.proofs.Common.{subst, arith}
use Rattle.std.proofs.lemmas.Result.{on_ok_weaker}
use Rattle.base_slots.specs.declared.slots.Slots.{Slots}
use Rattle.base_slots.specs.declared.slots.Slots.TheInside.{Inside}
use Rattle.base_slots.specs.Changes.{KeepsCapacities, KeepsRooms}
use Rattle.base_slots.specs.inside.Fields.{listing_of}
use Rattle.ti_source.specs.Reading.{reading_of}
use Rattle.base_slots.specs.declared.indexing.Role.TheVariants.{Holder, User}
use Rattle.base_meaning.proofs.Leading.{used-any_use}
use Rattle.base_slots.proofs.Rooms.{IsRoomier, roomier_indexed, roomier_rooms}
use Rattle.base_slots.proofs.Seen.{value_length, room_shown, capacities_shown}
use Rattle.base_slots.proofs.Made.{rooms_shown}
use Rattle.base_slots.proofs.slots.Slots.make_room.Goals as goal

pub make_place-requires-clause-few : goal.make_place-requires-clause-few
make_place-requires-clause-few c = omega (arith, c.requires, value_length c.self.inside c.args.self.now c.self.view_is c.self.invariant)

pub returns-clause-capacity : goal.returns-clause-capacity
returns-clause-capacity c =
    let old = c.self.inside in
    let new : Inside = record { order = c.make_place.new.order; names = c.reserve.new.index; slots = c.make_place.new.slots } in
    let h : IsRoomier old new = record {
      listed = c.make_place.ensures.listed;
      free = c.make_place.ensures.kept;
      places = c.make_place.ensures.places;
      slots = c.make_place.ensures.slots;
      names = c.reserve.ensures.grown;
    } in
    subst (λ (v : Slots). KeepsCapacities v (listing_of new)) c.self.view_is (capacities_shown old new h.names.capacity)

pub returns-clause-rooms : goal.returns-clause-rooms
returns-clause-rooms c =
    let old = c.self.inside in
    let new : Inside = record { order = c.make_place.new.order; names = c.reserve.new.index; slots = c.make_place.new.slots } in
    let h : IsRoomier old new = record {
      listed = c.make_place.ensures.listed;
      free = c.make_place.ensures.kept;
      places = c.make_place.ensures.places;
      slots = c.make_place.ensures.slots;
      names = c.reserve.ensures.grown;
    } in
    subst (λ (v : Slots). KeepsRooms v (listing_of new)) c.self.view_is
    (rooms_shown old new c.self.invariant (roomier_indexed old new h c.self.invariant) (roomier_rooms old new h))

pub returns-clause-room : goal.returns-clause-room
returns-clause-room c =
    let old = c.self.inside in
    let new : Inside = record { order = c.make_place.new.order; names = c.reserve.new.index; slots = c.make_place.new.slots } in
    let h : IsRoomier old new = record {
      listed = c.make_place.ensures.listed;
      free = c.make_place.ensures.kept;
      places = c.make_place.ensures.places;
      slots = c.make_place.ensures.slots;
      names = c.reserve.ensures.grown;
    } in
    on_ok_weaker c.reserve.result
    (λ room. room_shown new (reading_of c.args.block.now) (roomier_indexed old new h c.self.invariant) (record {
      id = c.in_ok-make_place.ensures.free;
      holders = λ name said. room Holder name said;
      users = λ name said. room User name (used-any_use name (reading_of c.args.block.now).items said);
    }))
    c.reserve.ensures.room
