-- Room for one more block: nothing that shows is changed by it.
use mathlib.Core.Path.{fun_ext}
use Rattle.std.proofs.Common.{Some, ◌≡◌, ◌<◌, ◌≤◌, ◌+◌, ℕ, List, length, filter, Option, slice_get, sym, ◌∙◌, ap, subst}
use Rattle.std.specs.Option.{option_map_or, IsSome}
use Rattle.std.specs.Str.{bytes_eq}
use Rattle.ti_source.specs.Reading.{Reading, reading_of}
use Rattle.base_meaning.specs.Owner.{is_among}
use Rattle.base_meaning.specs.Reaching.{any_use}
use Rattle.base_index.specs.Names.{holders_at, users_at}
use Rattle.base_slots.specs.declared.slots.Slot.{Slot}
use Rattle.base_slots.specs.declared.slots.Slots.TheInside.{Inside}
use Rattle.base_slots.specs.Slots.{empty_reading}
use Rattle.base_slots.specs.inside.Fields.{slot_stored, placed_of, IsIndexed}
use Rattle.base_slots.specs.inside.Indexing.{IsGrown}
use Rattle.base_slots.specs.declared.indexing.Role.TheVariants.{Holder, User}
use Rattle.base_slots.proofs.Adding.{room_grown}
use Rattle.base_slots.proofs.Changing.{HasRoomStored}
use Rattle.base_slots.proofs.Seen.{placed_agree}

-- the list and each slot are as before, a free id is still free, and the index has what it had
pub record IsRoomier (old new : Inside) : Type 0 where
  pub listed : new.order.listed ≡ old.order.listed
  pub free : 0 < length old.order.free → 0 < length new.order.free
  pub places : length new.order.listed + length new.order.free ≤ length new.slots.items
  pub slots : (id : ℕ) → slot_stored new.slots.items id ≡ slot_stored old.slots.items id
  pub names : IsGrown old.names new.names

module _ (old new : Inside) (h : IsRoomier old new) where
  -- what holds of the list and of what is in the slots
  kept : (P : (ℕ → Option Slot) → List ℕ → Type 0) → P (slot_stored old.slots.items) old.order.listed → P (slot_stored new.slots.items) new.order.listed
  kept P p =
      let Q : List ℕ → Type 0 = λ listed. P (slot_stored new.slots.items) listed in
      let R : (ℕ → Option Slot) → Type 0 = λ at. P at old.order.listed in
      subst Q (sym h.listed) (subst R (sym (fun_ext h.slots)) p)

  pub roomier_indexed : IsIndexed old → IsIndexed new
  roomier_indexed x = record {
    places = h.places;
    distinct = rw h.listed x.distinct;
    filled = kept (λ at listed. (i id : ℕ) → slice_get listed i ≡ Some id → IsSome (at id)) x.filled;
    holders = λ name.
        (h.names.seen name).holders
        ∙ kept (λ at listed. holders_at old.names name ≡ filter
        (λ id. is_among name (option_map_or (λ slot. reading_of slot.block) (at id) empty_reading).names) listed) (x.holders name);
    users = λ name.
        (h.names.seen name).users
        ∙ kept (λ at listed. users_at old.names name ≡ filter
        (λ id. any_use (bytes_eq name) (option_map_or (λ slot. reading_of slot.block) (at id) empty_reading).items) listed) (x.users name);
  }

  pub roomier_same : placed_of new.slots.items new.order.listed ≡ placed_of old.slots.items old.order.listed
  roomier_same =
      ap (placed_of new.slots.items) h.listed ∙ placed_agree new.slots.items old.slots.items old.order.listed (λ i id e. h.slots id)

  pub roomier_rooms : (block : Reading) → HasRoomStored old block → HasRoomStored new block
  roomier_rooms block room = record {
    id = h.free room.id;
    holders = λ name e. room_grown old.names new.names h.names Holder name (room.holders name e);
    users = λ name e. room_grown old.names new.names h.names User name (room.users name e);
  }
