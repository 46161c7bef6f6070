-- The list that the fields show.
use Rattle.std.proofs.Common.{◌≡◌, ℕ, zero, suc, inl, inr, List, [], ◌∷◌, map, filter, length, insert, remove, Bool, Option, Some, None, option_map}
use Rattle.std.proofs.Common.{slice_get, refl, sym, ◌∙◌, ap, subst, Global}
use Rattle.std.specs.Option.{option_map_or, IsSome}
use Rattle.std.specs.Str.{bytes_eq}
use Rattle.std.specs.Map.{lookup}
use Rattle.std.specs.Vec.{vec_capacity}
use Rattle.std.specs.declared.vec.Vec.{Vec}
use Rattle.std.specs.Cmp.Lexicographic.{slice_cmp, texts_ties}
use Rattle.std.specs.Ordering.{nat_cmp, is_eq}
use Rattle.std.proofs.lemmas.Bool.{cases_Bool, false≢true}
use Rattle.std.proofs.lemmas.Option.{same_Some, none-some}
use Rattle.ti_source.specs.Reading.{Reading, reading_of}
use Rattle.base_meaning.specs.Owner.{is_among}
use Rattle.base_meaning.specs.Reaching.{any_use}
use Rattle.ti_text.specs.Lists.{AreDistinct, Has}
use Rattle.base_index.specs.declared.names.Mentions.{Mentions}
use Rattle.base_index.specs.Names.{mentions_at, holders_at, users_at, holder_capacity, user_capacity, IsForgotten, KeepsCapacity}
use Rattle.base_slots.specs.declared.slots.Slot.{Slot}
use Rattle.base_slots.specs.declared.slots.Slots.{Slots}
use Rattle.base_slots.specs.declared.slots.Slots.TheInside.{Inside}
use Rattle.base_slots.specs.Listing.{Placed, Room}
use Rattle.base_slots.specs.Slots.{empty_reading, has_name, uses_name, holders_of, users_of, ids_of, slots_of}
use Rattle.base_slots.specs.Changes as seen
use Rattle.base_slots.specs.inside.Fields.{slot_stored, has_stored, uses_stored, placed_of, room_of, room_of_name, listing_of, IsIndexed}
use Rattle.base_slots.proofs.Changing.{HasRoomStored}
use Rattle.base_slots.proofs.Owners.{slot_there}

-- ---- the slots of some ids

-- each of the ids has a slot
abbrev pub AreFilled : List (Option Slot) → List ℕ → Type 0
AreFilled slots ids = (i id : ℕ) → slice_get ids i ≡ Some id → IsSome (slot_stored slots id)

pub some_there : {X : Type 0} (o : Option X) → IsSome o → (x : X) × (o ≡ Some x)
some_there None h = absurd (false≢true h)
some_there (Some x) h = (x, refl)

others_filled : (slots : List (Option Slot)) (id : ℕ) (ids : List ℕ) → AreFilled slots (id ∷ ids) → AreFilled slots ids
others_filled slots id ids h i x e = h (suc i) x e

pub placed_ids : (slots : List (Option Slot)) (ids : List ℕ) → AreFilled slots ids → map (λ (p : Placed). p.id) (placed_of slots ids) ≡ ids
placed_ids slots [] h = refl
placed_ids slots (id ∷ ids) h =
    let w = some_there (slot_stored slots id) (h 0 id refl) in
    rw w.1 (ap (λ xs. id ∷ xs) (placed_ids slots ids (others_filled slots id ids h)))

pub placed_there : (slots : List (Option Slot)) (ids : List ℕ) (at id : ℕ) (slot : Slot) → AreFilled slots ids → slice_get ids at ≡ Some id
    → slot_stored slots id ≡ Some slot
    → slice_get (placed_of slots ids) at ≡ Some (record { id = id; slot = slot })
placed_there slots [] at id slot h e s = absurd (none-some id e)
placed_there slots (x ∷ ids) zero id slot h e s =
    let same : x ≡ id = same_Some x id e in
    let here : slot_stored slots x ≡ Some slot = ap (slot_stored slots) same ∙ s in
    rw (here, same) refl
placed_there slots (x ∷ ids) (suc at) id slot h e s =
    let w = some_there (slot_stored slots x) (h 0 x refl) in
    rw w.1 (placed_there slots ids at id slot (others_filled slots x ids h) e s)

pub placed_agree : (slots other : List (Option Slot)) (ids : List ℕ)
    → ((i id : ℕ) → slice_get ids i ≡ Some id → slot_stored slots id ≡ slot_stored other id) → placed_of slots ids ≡ placed_of other ids
placed_agree slots other [] same = refl
placed_agree slots other (id ∷ ids) same =
    let here = same 0 id refl in
    let rest = placed_agree slots other ids (λ i x e. same (suc i) x e) in
    rw (here, rest) refl

pub placed_put : (slots : List (Option Slot)) (ids : List ℕ) (at id : ℕ) (slot : Slot) → AreFilled slots ids → slot_stored slots id ≡ Some slot
    → placed_of slots (insert ids at id) ≡ insert (placed_of slots ids) at (record { id = id; slot = slot })
placed_put slots ids zero id slot h s = rw s refl
placed_put slots [] (suc at) id slot h s = rw s refl
placed_put slots (x ∷ ids) (suc at) id slot h s =
    let w = some_there (slot_stored slots x) (h 0 x refl) in
    let rest = placed_put slots ids at id slot (others_filled slots x ids h) s in
    rw (w.1, rest) refl

pub placed_taken : (slots : List (Option Slot)) (ids : List ℕ) (at : ℕ) → AreFilled slots ids
    → placed_of slots (remove ids at) ≡ remove (placed_of slots ids) at
placed_taken slots [] zero h = refl
placed_taken slots [] (suc at) h = refl
placed_taken slots (x ∷ ids) zero h = let w = some_there (slot_stored slots x) (h 0 x refl) in rw w.1 refl
placed_taken slots (x ∷ ids) (suc at) h =
    let w = some_there (slot_stored slots x) (h 0 x refl) in
    let rest = placed_taken slots ids at (others_filled slots x ids h) in
    rw (w.1, rest) refl

-- the ids of those that pass a test
passing : (slots : List (Option Slot)) (ids : List ℕ) (test : Placed → Bool) (by_id : ℕ → Bool) → AreFilled slots ids
    → ((id : ℕ) (slot : Slot) → slot_stored slots id ≡ Some slot → test (record { id = id; slot = slot }) ≡ by_id id)
    → map (λ (p : Placed). p.id) (filter test (placed_of slots ids)) ≡ filter by_id ids
passing slots [] test by_id h same = refl
passing slots (id ∷ ids) test by_id h same =
    let w = some_there (slot_stored slots id) (h 0 id refl) in
    let rest = passing slots ids test by_id (others_filled slots id ids h) same in
    let here = same id w.0 w.1 in
    elim (cases_Bool (by_id id)) [
      | inl passes_it ↦ (let t = here ∙ passes_it in rw (w.1, t, passes_it) (ap (λ xs. id ∷ xs) rest))
      | inr fails_it ↦ (let t = here ∙ fails_it in rw (w.1, t, fails_it) rest)
    ]

pub ids_seen : (slots : Inside) → IsIndexed slots → ids_of (listing_of slots) ≡ slots.order.listed
ids_seen slots h = placed_ids slots.slots.items slots.order.listed h.filled

pub length_seen : (slots : Inside) → IsIndexed slots → length (listing_of slots).placed ≡ length slots.order.listed
length_seen slots h = mapped (listing_of slots).placed ∙ ap length (ids_seen slots h) where
  mapped : (ps : List Placed) → length ps ≡ length (map (λ (p : Placed). p.id) ps)
  mapped [] = refl
  mapped (p ∷ ps) = ap suc (mapped ps)

pub holders_seen : (slots : Inside) (name : List ℕ) → IsIndexed slots → holders_of (listing_of slots) name ≡ holders_at slots.names name
holders_seen slots name h =
    passing slots.slots.items slots.order.listed (has_name name) (has_stored slots.slots.items name) h.filled
    (λ id slot e. ap (λ o. is_among name (option_map_or (λ s. reading_of s.block) o empty_reading).names) (sym e))
    ∙ sym (h.holders name)

pub users_seen : (slots : Inside) (name : List ℕ) → IsIndexed slots → users_of (listing_of slots) name ≡ users_at slots.names name
users_seen slots name h =
    passing slots.slots.items slots.order.listed (uses_name name) (uses_stored slots.slots.items name) h.filled
    (λ id slot e. ap (λ o. any_use (bytes_eq name) (option_map_or (λ s. reading_of s.block) o empty_reading).items) (sym e))
    ∙ sym (h.users name)

-- ---- the list that is shown, as it is given

pub value_ids : (slots : Inside) (value : Slots) → listing_of slots ≡ value → IsIndexed slots → ids_of value ≡ slots.order.listed
value_ids slots value e h = ap ids_of (sym e) ∙ ids_seen slots h

pub value_length : (slots : Inside) (value : Slots) → listing_of slots ≡ value → IsIndexed slots → length value.placed ≡ length slots.order.listed
value_length slots value e h = ap (λ (v : Slots). length v.placed) (sym e) ∙ length_seen slots h

pub value_distinct : (slots : Inside) (value : Slots) → listing_of slots ≡ value → IsIndexed slots → AreDistinct (ids_of value)
value_distinct slots value e h = let P : List ℕ → Type 0 = λ xs. AreDistinct xs in subst P (sym (value_ids slots value e h)) h.distinct

pub value_has : (slots : Inside) (value : Slots) (id : ℕ) → listing_of slots ≡ value → IsIndexed slots → Has (ids_of value) id → Has slots.order.listed id
value_has slots value id e h there = let P : List ℕ → Type 0 = λ xs. Has xs id in subst P (value_ids slots value e h) there

pub has_slot : (slots : Inside) (value : Slots) (id : ℕ) → listing_of slots ≡ value → IsIndexed slots → Has (ids_of value) id
    → IsSome (slot_stored slots.slots.items id)
has_slot slots value id e h there = let w = value_has slots value id e h there in h.filled w.0 id w.1

pub value_slot : (slots : Inside) (value : Slots) (at id : ℕ) (slot : Slot) → listing_of slots ≡ value → IsIndexed slots
    → slot_stored slots.slots.items id ≡ Some slot → slice_get (ids_of value) at ≡ Some id → slice_get (slots_of value) at ≡ Some slot
value_slot slots value at id slot e h read stands =
    let stored : slice_get slots.order.listed at ≡ Some id = ap (λ xs. slice_get xs at) (sym (value_ids slots value e h)) ∙ stands in
    let there = placed_there slots.slots.items slots.order.listed at id slot h.filled stored read in
    ap (λ (v : Slots). slice_get (slots_of v) at) (sym e) ∙ slot_there (listing_of slots) at (record { id = id; slot = slot }) there

-- ---- what is stored for a name

room_by : (name : List ℕ) (entries : List (Vec ℕ Global × Mentions)) → lookup (bytes_eq name) (map room_of_name entries)
    ≡ option_map room_of (lookup (λ (key : Vec ℕ Global). is_eq (slice_cmp nat_cmp name key.items)) entries)
room_by name [] = refl
room_by name (entry ∷ entries) =
    let same : bytes_eq name entry.0.items ≡ is_eq (slice_cmp nat_cmp name entry.0.items) = texts_ties name entry.0.items in
    elim (cases_Bool (is_eq (slice_cmp nat_cmp name entry.0.items))) [
      | inl passes_it ↦ (let t = same ∙ passes_it in rw (t, passes_it) refl)
      | inr fails_it ↦ (let t = same ∙ fails_it in rw (t, fails_it) (room_by name entries))
    ]

pub room_seen : (slots : Inside) (name : List ℕ) → seen.room_at (listing_of slots) name ≡ option_map room_of (mentions_at slots.names name)
room_seen slots name = room_by name slots.names.entries.entries

pub holder_capacity_seen : (slots : Inside) (name : List ℕ) → seen.holder_capacity (listing_of slots) name ≡ holder_capacity slots.names name
holder_capacity_seen slots name = ap (λ o. option_map_or (λ (r : Room). r.holders) o 0) (room_seen slots name) ∙ by (mentions_at slots.names name) where
  by : (o : Option Mentions) → option_map_or (λ (r : Room). r.holders) (option_map room_of o) 0 ≡ option_map_or (λ m. vec_capacity m.holders) o 0
  by None = refl
  by (Some m) = refl

pub user_capacity_seen : (slots : Inside) (name : List ℕ) → seen.user_capacity (listing_of slots) name ≡ user_capacity slots.names name
user_capacity_seen slots name = ap (λ o. option_map_or (λ (r : Room). r.users) o 0) (room_seen slots name) ∙ by (mentions_at slots.names name) where
  by : (o : Option Mentions) → option_map_or (λ (r : Room). r.users) (option_map room_of o) 0 ≡ option_map_or (λ m. vec_capacity m.users) o 0
  by None = refl
  by (Some m) = refl

pub room_shown : (slots : Inside) (block : Reading) → IsIndexed slots → HasRoomStored slots block → seen.HasRoomFor (listing_of slots) block
room_shown slots block x h = record {
  id = h.id;
  holders = λ name e. rw (holders_seen slots name x, holder_capacity_seen slots name) (h.holders name e);
  users = λ name e. rw (users_seen slots name x, user_capacity_seen slots name) (h.users name e);
}

pub room_stored : (slots : Inside) (block : Reading) → IsIndexed slots → seen.HasRoomFor (listing_of slots) block → HasRoomStored slots block
room_stored slots block x h = record {
  id = h.id;
  holders = λ name e. rw (← holders_seen slots name x, ← holder_capacity_seen slots name) (h.holders name e);
  users = λ name e. rw (← users_seen slots name x, ← user_capacity_seen slots name) (h.users name e);
}

pub capacities_shown : (old new : Inside) → ((name : List ℕ) → KeepsCapacity old.names new.names name) → seen.KeepsCapacities (listing_of old) (listing_of new)
capacities_shown old new h = record {
  holders = λ name. rw (holder_capacity_seen old name, holder_capacity_seen new name) (h name).holders;
  users = λ name. rw (user_capacity_seen old name, user_capacity_seen new name) (h name).users;
}

pub forgotten_shown : (slots : Inside) (name : List ℕ) → IsIndexed slots → IsForgotten slots.names name → seen.IsForgotten (listing_of slots) name
forgotten_shown slots name x h a b =
    room_seen slots name ∙ ap (option_map room_of) (h (sym (holders_seen slots name x) ∙ a) (sym (users_seen slots name x) ∙ b))
