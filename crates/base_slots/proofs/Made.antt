-- What the list shows once its fields were changed.
use Rattle.std.proofs.Common.{◌≡◌, ◌≢◌, ◌<◌, ◌≤◌, ℕ, suc, inl, inr, List, [], ◌∷◌, map, length, set, Bool, true, false, cond, nat_eq, Option, Some}
use Rattle.std.proofs.Common.{slice_get, insert, remove, refl, sym, ◌∙◌, ap, subst, arith, eq-eqb, length-set}
use Rattle.std.specs.Option.{IsSome}
use Rattle.std.proofs.lemmas.Bool.{cases_eq}
use Rattle.std.proofs.lemmas.Option.{same_Some}
use Rattle.ti_source.specs.Reading.{Reading, reading_of}
use Rattle.base_index.specs.Names.{holders_at, users_at, holder_capacity, user_capacity}
use Rattle.base_index.proofs.LawProofs.{agreeing_lists}
use Rattle.base_slots.specs.Listing.{Placed}
use Rattle.base_slots.specs.declared.slots.Settled.{Settled}
use Rattle.base_slots.specs.declared.slots.Slot.{Slot}
use Rattle.base_slots.specs.declared.slots.Slots.{Slots}
use Rattle.base_slots.specs.declared.slots.Slots.TheInside.{Inside}
use Rattle.base_slots.specs.Slots.{settled_if, settled_in}
use Rattle.base_slots.specs.Changes.{HasRoomFor, KeepsRooms, PutsIn, TakesOut}
use Rattle.base_slots.specs.inside.Fields.{slot_stored, has_stored, uses_stored, placed_of, listing_of, rooms_of, IsIndexed}
use Rattle.base_slots.specs.inside.Indexing.{ShowsSameNames}
use Rattle.base_slots.proofs.Listings.{neq_false, left_before}
use Rattle.base_slots.proofs.Changing.{HasRoomStored, HasPut, HasTaken, put_here, put_others, taken_indexed, taken_others, taken_room, taken_rooms}
use Rattle.base_slots.proofs.Changing.{name_by_slot, use_by_slot, slot_set, slot_set_other}
use Rattle.base_slots.proofs.Seen.{AreFilled, some_there, placed_there, placed_agree, placed_put, placed_taken, value_has, room_shown, room_stored}
use Rattle.base_slots.proofs.Seen.{capacities_shown}

-- ---- room

pub value_room : (slots : Inside) (value : Slots) (block : Reading) → listing_of slots ≡ value → IsIndexed slots → HasRoomFor value block
    → HasRoomStored slots block
value_room slots value block e h room = room_stored slots block h (subst (λ (v : Slots). HasRoomFor v block) (sym e) room)

pub rooms_shown : (old new : Inside) → IsIndexed old → IsIndexed new → ((block : Reading) → HasRoomStored old block → HasRoomStored new block)
    → KeepsRooms (listing_of old) (listing_of new)
rooms_shown old new one two keeps block room = room_shown new block two (keeps block (room_stored old block one room))

-- ---- a block is put in

pub put_shown : (a b : Inside) (value : Slots) (at id : ℕ) (slot : Slot) → listing_of a ≡ value → IsIndexed a → HasPut a b at id slot
    → PutsIn value (listing_of b) at slot id
put_shown a b value at id slot e i h = subst (λ (v : Slots). PutsIn v (listing_of b) at slot id) e (record {
  placed =
      ap (placed_of b.slots.items) h.listed
      ∙ (placed_agree_put
      ∙ ap (λ ps. insert ps at (record { id = id; slot = slot })) same);
  fresh = λ there. h.fresh (value_has a (listing_of a) id refl i there);
  free = h.free;
  capacity = capacities_shown a b h.names.capacity;
}) where
  same : placed_of b.slots.items a.order.listed ≡ placed_of a.slots.items a.order.listed
  same = placed_agree b.slots.items a.slots.items a.order.listed (λ pos x f. put_others a b at id slot h x (λ one. h.fresh (pos, rw one at f)))

  filled : AreFilled b.slots.items a.order.listed
  filled pos x f = rw (put_others a b at id slot h x (λ one. h.fresh (pos, rw one at f))) (i.filled pos x f)

  placed_agree_put : placed_of b.slots.items (insert a.order.listed at id) ≡ insert (placed_of b.slots.items a.order.listed) at
      (record { id = id; slot = slot })
  placed_agree_put = placed_put b.slots.items a.order.listed at id slot filled (put_here a b at id slot h)

-- ---- a block is taken out

pub taken_shown : (a b : Inside) (value : Slots) (at id : ℕ) (slot : Slot) → listing_of a ≡ value → IsIndexed a → HasTaken a b at id slot
    → ((name : List ℕ) → length (holders_at a.names name) ≤ holder_capacity a.names name)
    → ((name : List ℕ) → length (users_at a.names name) ≤ user_capacity a.names name) → TakesOut value (listing_of b) at slot
taken_shown a b value at id slot e i h holders_fit users_fit = subst (λ (v : Slots). TakesOut v (listing_of b) at slot) e (record {
  id = id;
  was = placed_there a.slots.items a.order.listed at id slot i.filled h.stood h.was;
  placed = ap (placed_of b.slots.items) h.listed ∙ (same ∙ placed_taken a.slots.items a.order.listed at i.filled);
  free = h.free;
  capacity = capacities_shown a b h.names.capacity;
  room = room_shown b (reading_of slot.block) two (taken_room a b at id slot i h holders_fit users_fit h.names.capacity);
  rooms = rooms_shown a b i two (taken_rooms a b at id slot i h h.names.capacity);
}) where
  two : IsIndexed b
  two = taken_indexed a b at id slot i h

  same : placed_of b.slots.items (remove a.order.listed at) ≡ placed_of a.slots.items (remove a.order.listed at)
  same = placed_agree b.slots.items a.slots.items (remove a.order.listed at)
      (λ pos x f. taken_others a b at id slot h x (left_before a.order.listed at id pos x h.distinct h.stood f).1)

-- ---- what was found out about a block is exchanged

pub record HasSettled (a b : Inside) (id : ℕ) (slot : Slot) (settled : Settled) : Type 0 where
  pub order : b.order ≡ a.order
  pub names : b.names ≡ a.names
  pub was : slot_stored a.slots.items id ≡ Some slot
  pub known : id < length a.slots.items
  pub slots : b.slots.items ≡ set a.slots.items id (Some (record slot { settled = settled }))

module _ (a b : Inside) (id : ℕ) (slot : Slot) (settled : Settled) (i : IsIndexed a) (h : HasSettled a b id slot settled) where
  settled_here : slot_stored b.slots.items id ≡ Some (record slot { settled = settled })
  settled_here = rw h.slots (slot_set a.slots.items id (Some (record slot { settled = settled })) h.known)

  settled_others : (other : ℕ) → other ≢ id → slot_stored b.slots.items other ≡ slot_stored a.slots.items other
  settled_others other n = rw h.slots (slot_set_other a.slots.items id other (Some (record slot { settled = settled })) n)

  name_stays : (name : List ℕ) (x : ℕ) → has_stored a.slots.items name x ≡ has_stored b.slots.items name x
  name_stays name x = elim (cases_eq x id) [
    | inl one ↦ rw one (name_by_slot a.slots.items name id (Some slot) h.was
        ∙ sym (name_by_slot b.slots.items name id (Some (record slot { settled = settled })) settled_here))
    | inr apart ↦ sym (name_by_slot b.slots.items name x (slot_stored a.slots.items x) (settled_others x apart))
  ]

  use_stays : (name : List ℕ) (x : ℕ) → uses_stored a.slots.items name x ≡ uses_stored b.slots.items name x
  use_stays name x = elim (cases_eq x id) [
    | inl one ↦ rw one (use_by_slot a.slots.items name id (Some slot) h.was
        ∙ sym (use_by_slot b.slots.items name id (Some (record slot { settled = settled })) settled_here))
    | inr apart ↦ sym (use_by_slot b.slots.items name x (slot_stored a.slots.items x) (settled_others x apart))
  ]

  still_filled : (pos x : ℕ) → slice_get a.order.listed pos ≡ Some x → IsSome (slot_stored b.slots.items x)
  still_filled pos x e = elim (cases_eq x id) [
    | inl one ↦ rw (one, settled_here) refl
    | inr apart ↦ rw (settled_others x apart) (i.filled pos x e)
  ]

  pub settled_indexed : IsIndexed b
  settled_indexed = record {
    places = rw h.order (omega (arith, i.places, ap length h.slots, length-set a.slots.items id (Some (record slot { settled = settled }))));
    distinct = rw h.order i.distinct;
    filled = rw h.order still_filled;
    holders = λ name. rw (h.order, h.names)
        (i.holders name ∙ agreeing_lists a.order.listed (has_stored a.slots.items name) (has_stored b.slots.items name) (λ pos x e. name_stays name x));
    users = λ name. rw (h.order, h.names)
        (i.users name ∙ agreeing_lists a.order.listed (uses_stored a.slots.items name) (uses_stored b.slots.items name) (λ pos x e. use_stays name x));
  }

  settled_slot : (x : ℕ) (old : Slot) → slot_stored a.slots.items x ≡ Some old → slot_stored b.slots.items x
      ≡ Some (settled_if id settled (record { id = x; slot = old })).slot
  settled_slot x old e = elim (cases_eq x id) [
    | inl one ↦
        let here : slot_stored a.slots.items id ≡ Some old = ap (slot_stored a.slots.items) (sym one) ∙ e in
        let same : slot ≡ old = same_Some slot old (sym h.was ∙ here) in
        rw (one, eq-eqb id id refl) (settled_here ∙ ap (λ (s : Slot). Some (record s { settled = settled })) same)
    | inr apart ↦ rw (neq_false x id apart) (settled_others x apart ∙ e)
  ]

settled_is : (id : ℕ) (settled : Settled) (p : Placed) → settled_if id settled p ≡ record { id = p.id; slot = (settled_if id settled p).slot }
settled_is id settled p = by (nat_eq p.id id) where
  by : (b : Bool) → cond b (record p { slot = record p.slot { settled = settled } }) p ≡ record {
    id = p.id;
    slot =
        (cond b (record p { slot = record p.slot { settled = settled } }) p).slot;
  }
  by true = refl
  by false = refl

settled_placed : (a b : List (Option Slot)) (ids : List ℕ) (id : ℕ) (settled : Settled) → AreFilled a ids
    → ((x : ℕ) (old : Slot) → slot_stored a x ≡ Some old → slot_stored b x ≡ Some (settled_if id settled (record { id = x; slot = old })).slot)
    → placed_of b ids ≡ map (settled_if id settled) (placed_of a ids)
settled_placed a b [] id settled h same = refl
settled_placed a b (x ∷ ids) id settled h same =
    let w = some_there (slot_stored a x) (h 0 x refl) in
    let here = same x w.0 w.1 in
    let rest = settled_placed a b ids id settled (λ k y e. h (suc k) y e) same in
    rw (w.1, here, rest) (ap (λ q. q ∷ map (settled_if id settled) (placed_of a ids)) (sym (settled_is id settled (record { id = x; slot = w.0 }))))

pub settled_shown : (a b : Inside) (value : Slots) (id : ℕ) (slot : Slot) (settled : Settled) → listing_of a ≡ value → IsIndexed a
    → HasSettled a b id slot settled → listing_of b ≡ settled_in value id settled
settled_shown a b value id slot settled e i h =
    let placed : placed_of b.slots.items b.order.listed ≡ map (settled_if id settled) (placed_of a.slots.items a.order.listed) =
    ap (λ o. placed_of b.slots.items o.listed) h.order ∙ settled_placed a.slots.items b.slots.items a.order.listed id settled i.filled
    (settled_slot a b id slot settled i h) in
    let free : b.order.free ≡ a.order.free = ap (λ o. o.free) h.order in
    let rooms : rooms_of b.names ≡ rooms_of a.names = ap rooms_of h.names in
    let shown : listing_of b ≡ settled_in (listing_of a) id settled = rw (placed, free, rooms) refl in
    shown ∙ ap (λ (v : Slots). settled_in v id settled) e

-- ---- names are forgotten

-- the index shows the same
pub fewer_indexed : (a b : Inside) → IsIndexed a → ShowsSameNames a.names b.names → IsIndexed (record { order = a.order; names = b.names; slots = a.slots })
fewer_indexed a b i same = record {
  places = i.places;
  distinct = i.distinct;
  filled = i.filled;
  holders = λ name. (same name).holders ∙ i.holders name;
  users = λ name. (same name).users ∙ i.users name;
}
