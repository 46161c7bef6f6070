-- What holds as a block is put in or taken out.
use Rattle.std.proofs.Common.{◌≡◌, ◌≢◌, ◌<◌, ◌≤◌, ℕ, inl, inr, List, [], ◌∷◌, ◌++◌, length, get_or, set, Bool, true, false, not, nat_eq, ◌&&◌, Option, Some}
use Rattle.std.proofs.Common.{None, slice_get, filter, insert, remove, refl, ◌∙◌, ap, arith, eq-eqb, length-append, length-set}
use Rattle.std.specs.Option.{option_map_or, option_and_then, IsSome}
use Rattle.std.specs.Str.{bytes_eq}
use Rattle.std.proofs.lemmas.Bool.{cases_eq, cases_lt, false≢true}
use Rattle.std.proofs.lemmas.Option.{slice_get_past, slice_get_read}
use Rattle.ti_source.specs.Reading.{Reading, reading_of}
use Rattle.base_meaning.specs.Owner.{is_among}
use Rattle.base_meaning.specs.Reaching.{any_use, Uses}
use Rattle.ti_text.specs.Lists.{Has, AreDistinct}
use Rattle.base_index.specs.Names.{holders_at, users_at, holder_capacity, user_capacity, HasHolderRoom, HasUserRoom, KeepsCapacity}
use Rattle.base_slots.specs.declared.slots.Slot.{Slot}
use Rattle.base_slots.specs.declared.slots.Slots.TheInside.{Inside}
use Rattle.base_slots.specs.Slots.{empty_reading}
use Rattle.base_slots.specs.inside.Fields.{slot_stored, has_stored, uses_stored, IsIndexed}
use Rattle.base_slots.specs.declared.indexing.Role.TheVariants.{Holder, User}
use Rattle.base_slots.specs.inside.Indexing.{says_of, AddsId, Removes}
use Rattle.base_meaning.proofs.Leading.{used-any_use}
use Rattle.base_slots.proofs.Listings.{list_before, list_with, list_left, list_without, fewer_pass, one_less, and_right, get_set, get_set_other}
use Rattle.base_slots.proofs.Listings.{stood_before, left_before, length-put, length-taken, distinct_put, distinct_taken}

-- room in the words of the index
pub record HasRoomStored (slots : Inside) (block : Reading) : Type 0 where
  pub id : 0 < length slots.order.free
  pub holders : (name : List ℕ) → is_among name block.names ≡ true → HasHolderRoom slots.names name
  pub users : (name : List ℕ) → Uses block.items name → HasUserRoom slots.names name

-- ---- the list is determined by what is in its slots

pub slot_set : (slots : List (Option Slot)) (id : ℕ) (slot : Option Slot) → id < length slots → slot_stored (set slots id slot) id ≡ slot
slot_set slots id slot l = ap (λ o. option_and_then (λ s. s) o) (get_set slots id slot l)

pub slot_set_other : (slots : List (Option Slot)) (id other : ℕ) (slot : Option Slot) → other ≢ id
    → slot_stored (set slots id slot) other ≡ slot_stored slots other
slot_set_other slots id other slot n = ap (λ o. option_and_then (λ s. s) o) (get_set_other slots id other slot n)

pub known_slot : (slots : List (Option Slot)) (id : ℕ) → IsSome (slot_stored slots id) → id < length slots
known_slot slots id e = elim (cases_lt id (length slots)) [
  | inl less ↦ less
  | inr more ↦ (let past : slot_stored slots id ≡ None = ap (λ o. option_and_then (λ s. s) o) (slice_get_past slots id more) in
      absurd (false≢true (rw past at e)))
]

pub read_slot : (slots : List (Option Slot)) (id : ℕ) (slot : Option Slot) → id < length slots → slot ≡ get_or slots id slot → slot_stored slots id ≡ slot
read_slot slots id slot l e = ap (λ o. option_and_then (λ s. s) o) (slice_get_read slots (length slots) id slot refl l e)

pub name_by_slot : (one : List (Option Slot)) (name : List ℕ) (id : ℕ) (slot : Option Slot) → slot_stored one id ≡ slot
    → has_stored one name id ≡ is_among name (option_map_or (λ s. reading_of s.block) slot empty_reading).names
name_by_slot one name id slot e = ap (λ o. is_among name (option_map_or (λ s. reading_of s.block) o empty_reading).names) e

pub use_by_slot : (one : List (Option Slot)) (name : List ℕ) (id : ℕ) (slot : Option Slot) → slot_stored one id ≡ slot
    → uses_stored one name id ≡ any_use (bytes_eq name) (option_map_or (λ s. reading_of s.block) slot empty_reading).items
use_by_slot one name id slot e = ap (λ o. any_use (bytes_eq name) (option_map_or (λ s. reading_of s.block) o empty_reading).items) e

-- ---- a block is put in

pub record HasPut (a b : Inside) (at id : ℕ) (slot : Slot) : Type 0 where
  pub within : at ≤ length a.order.listed
  pub listed : b.order.listed ≡ insert a.order.listed at id
  pub free : a.order.free ≡ b.order.free ++ id ∷ []
  pub fresh : ¬ Has a.order.listed id
  pub known : id < length a.slots.items
  pub slots : b.slots.items ≡ set a.slots.items id (Some slot)
  pub names : AddsId b.order.listed (says_of slot.block) id a.names b.names

-- the lists of a name before, among the new ids
pub holders_before : (a : Inside) (listed : List ℕ) (at id : ℕ) → IsIndexed a → listed ≡ insert a.order.listed at id → (Has a.order.listed id → ⊥)
    → (name : List ℕ) → holders_at a.names name ≡ filter (λ x. not (nat_eq x id) && has_stored a.slots.items name x) listed
holders_before a listed at id h e fresh name =
    rw e (h.holders name ∙ list_before a.order.listed at id (has_stored a.slots.items name) fresh)

pub users_before : (a : Inside) (listed : List ℕ) (at id : ℕ) → IsIndexed a → listed ≡ insert a.order.listed at id → (Has a.order.listed id → ⊥)
    → (name : List ℕ) → users_at a.names name ≡ filter (λ x. not (nat_eq x id) && uses_stored a.slots.items name x) listed
users_before a listed at id h e fresh name =
    rw e (h.users name ∙ list_before a.order.listed at id (uses_stored a.slots.items name) fresh)

pub put_here : (a b : Inside) (at id : ℕ) (slot : Slot) → HasPut a b at id slot → slot_stored b.slots.items id ≡ Some slot
put_here a b at id slot h = rw h.slots (slot_set a.slots.items id (Some slot) h.known)

pub put_others : (a b : Inside) (at id : ℕ) (slot : Slot) → HasPut a b at id slot → (other : ℕ) → other ≢ id
    → slot_stored b.slots.items other ≡ slot_stored a.slots.items other
put_others a b at id slot h other n = rw h.slots (slot_set_other a.slots.items id other (Some slot) n)

put_filled : (a b : Inside) (at id : ℕ) (slot : Slot) → IsIndexed a → HasPut a b at id slot → (pos x : ℕ) → slice_get b.order.listed pos ≡ Some x
    → IsSome (slot_stored b.slots.items x)
put_filled a b at id slot i h pos x e = elim (cases_eq x id) [
  | inl same ↦ rw (same, put_here a b at id slot h) refl
  | inr apart ↦
      let stood = stood_before a.order.listed at id pos x h.within (rw h.listed at e) apart in
      rw (put_others a b at id slot h x apart) (i.filled stood.0 x stood.1)
]

pub put_indexed : (a b : Inside) (at id : ℕ) (slot : Slot) → IsIndexed a → HasPut a b at id slot → IsIndexed b
put_indexed a b at id slot i h =
    let here = put_here a b at id slot h in
    let others = put_others a b at id slot h in
    record {
      places = omega (
        arith,
        i.places,
        ap length h.listed,
        length-put a.order.listed at id,
        ap length h.free,
        length-append b.order.free (id ∷ []),
        ap length h.slots,
        length-set a.slots.items id (Some slot),
      );
      distinct = rw h.listed (distinct_put a.order.listed at id i.distinct h.within h.fresh);
      filled = put_filled a b at id slot i h;
      holders = λ name.
          h.names.added Holder name (λ x. not (nat_eq x id) && has_stored a.slots.items name x) (holders_before a b.order.listed at id i h.listed h.fresh name)
          ∙ list_with b.order.listed id (has_stored a.slots.items name) (has_stored b.slots.items name) (says_of slot.block Holder name)
          (λ x n. name_by_slot b.slots.items name x (slot_stored a.slots.items x) (others x n))
          (name_by_slot b.slots.items name id (Some slot) here);
      users = λ name.
          h.names.added User name (λ x. not (nat_eq x id) && uses_stored a.slots.items name x) (users_before a b.order.listed at id i h.listed h.fresh name)
          ∙ list_with b.order.listed id (uses_stored a.slots.items name) (uses_stored b.slots.items name) (says_of slot.block User name)
          (λ x n. use_by_slot b.slots.items name x (slot_stored a.slots.items x) (others x n))
          (use_by_slot b.slots.items name id (Some slot) here);
    }

-- ---- a block is taken out

pub record HasTaken (a b : Inside) (at id : ℕ) (slot : Slot) : Type 0 where
  pub stood : slice_get a.order.listed at ≡ Some id
  pub distinct : AreDistinct a.order.listed
  pub listed : b.order.listed ≡ remove a.order.listed at
  pub free : b.order.free ≡ a.order.free ++ id ∷ []
  pub was : slot_stored a.slots.items id ≡ Some slot
  pub known : id < length a.slots.items
  pub slots : b.slots.items ≡ set a.slots.items id None
  pub names : Removes a.order.listed (says_of slot.block) id a.names b.names

taken_gone : (a b : Inside) (at id : ℕ) (slot : Slot) → HasTaken a b at id slot → slot_stored b.slots.items id ≡ None
taken_gone a b at id slot h = rw h.slots (slot_set a.slots.items id None h.known)

pub taken_others : (a b : Inside) (at id : ℕ) (slot : Slot) → HasTaken a b at id slot → (other : ℕ) → other ≢ id
    → slot_stored b.slots.items other ≡ slot_stored a.slots.items other
taken_others a b at id slot h other n = rw h.slots (slot_set_other a.slots.items id other None n)

-- the lists of a name after, among the old ids
holders_after : (a b : Inside) (at id : ℕ) (slot : Slot) → IsIndexed a → HasTaken a b at id slot → (name : List ℕ)
    → holders_at b.names name ≡ filter (λ x. not (nat_eq x id) && has_stored a.slots.items name x) a.order.listed
holders_after a b at id slot i h name =
    h.names.removed Holder name (has_stored a.slots.items name) (i.holders name)
    ∙ list_left a.order.listed id (has_stored a.slots.items name) (says_of slot.block Holder name) (name_by_slot a.slots.items name id (Some slot) h.was)

users_after : (a b : Inside) (at id : ℕ) (slot : Slot) → IsIndexed a → HasTaken a b at id slot → (name : List ℕ)
    → users_at b.names name ≡ filter (λ x. not (nat_eq x id) && uses_stored a.slots.items name x) a.order.listed
users_after a b at id slot i h name =
    h.names.removed User name (uses_stored a.slots.items name) (i.users name)
    ∙ list_left a.order.listed id (uses_stored a.slots.items name) (says_of slot.block User name) (use_by_slot a.slots.items name id (Some slot) h.was)

taken_filled : (a b : Inside) (at id : ℕ) (slot : Slot) → IsIndexed a → HasTaken a b at id slot → (pos x : ℕ) → slice_get b.order.listed pos ≡ Some x
    → IsSome (slot_stored b.slots.items x)
taken_filled a b at id slot i h pos x e =
    let stood = left_before a.order.listed at id pos x h.distinct h.stood (rw h.listed at e) in
    rw (taken_others a b at id slot h x stood.1) (i.filled stood.0.0 x stood.0.1)

pub taken_indexed : (a b : Inside) (at id : ℕ) (slot : Slot) → IsIndexed a → HasTaken a b at id slot → IsIndexed b
taken_indexed a b at id slot i h =
    let gone = taken_gone a b at id slot h in
    let others = taken_others a b at id slot h in
    record {
      places = omega (
        arith,
        i.places,
        ap length h.listed,
        length-taken a.order.listed at id h.stood,
        ap length h.free,
        length-append a.order.free (id ∷ []),
        ap length h.slots,
        length-set a.slots.items id None,
      );
      distinct = rw h.listed (distinct_taken a.order.listed at i.distinct);
      filled = taken_filled a b at id slot i h;
      holders = λ name. rw h.listed
          (holders_after a b at id slot i h name
          ∙ list_without a.order.listed at id (has_stored a.slots.items name) (has_stored b.slots.items name) h.stood
          (λ x n. name_by_slot b.slots.items name x (slot_stored a.slots.items x) (others x n))
          (name_by_slot b.slots.items name id None gone));
      users = λ name. rw h.listed
          (users_after a b at id slot i h name
          ∙ list_without a.order.listed at id (uses_stored a.slots.items name) (uses_stored b.slots.items name) h.stood
          (λ x n. use_by_slot b.slots.items name x (slot_stored a.slots.items x) (others x n))
          (use_by_slot b.slots.items name id None gone));
    }

no_longer : (id : ℕ) (has : ℕ → Bool) → (not (nat_eq id id) && has id) ≡ false
no_longer id has = rw (eq-eqb id id refl) refl

-- the block leaves the room that it had
pub taken_room : (a b : Inside) (at id : ℕ) (slot : Slot) → IsIndexed a → HasTaken a b at id slot
    → ((name : List ℕ) → length (holders_at a.names name) ≤ holder_capacity a.names name)
    → ((name : List ℕ) → length (users_at a.names name) ≤ user_capacity a.names name) → ((name : List ℕ) → KeepsCapacity a.names b.names name)
    → HasRoomStored b (reading_of slot.block)
taken_room a b at id slot i h holders_fit users_fit capacity = record {
  id = omega (arith, ap length h.free, length-append a.order.free (id ∷ []));
  holders = λ name stated.
      let has = has_stored a.slots.items name in
      let less = one_less has (λ x. not (nat_eq x id) && has x) a.order.listed at id (λ x. and_right (not (nat_eq x id)) (has x)) h.stood
      (name_by_slot a.slots.items name id (Some slot) h.was ∙ stated) (no_longer id has) in
      omega (arith, less, ap length (i.holders name), ap length (holders_after a b at id slot i h name), holders_fit name, (capacity name).holders);
  users = λ name stated.
      let has = uses_stored a.slots.items name in
      let less = one_less has (λ x. not (nat_eq x id) && has x) a.order.listed at id (λ x. and_right (not (nat_eq x id)) (has x)) h.stood
      (use_by_slot a.slots.items name id (Some slot) h.was ∙ used-any_use name (reading_of slot.block).items stated) (no_longer id has) in
      omega (arith, less, ap length (i.users name), ap length (users_after a b at id slot i h name), users_fit name, (capacity name).users);
}

-- and takes none from another
pub taken_rooms : (a b : Inside) (at id : ℕ) (slot : Slot) → IsIndexed a → HasTaken a b at id slot → ((name : List ℕ) → KeepsCapacity a.names b.names name)
    → (block : Reading) → HasRoomStored a block → HasRoomStored b block
taken_rooms a b at id slot i h capacity block room = record {
  id = omega (arith, ap length h.free, length-append a.order.free (id ∷ []));
  holders = λ name stated.
      let has = has_stored a.slots.items name in
      let less = fewer_pass has (λ x. not (nat_eq x id) && has x) a.order.listed (λ x. and_right (not (nat_eq x id)) (has x)) in
      omega (arith, less, ap length (i.holders name), ap length (holders_after a b at id slot i h name), room.holders name stated, (capacity name).holders);
  users = λ name stated.
      let has = uses_stored a.slots.items name in
      let less = fewer_pass has (λ x. not (nat_eq x id) && has x) a.order.listed (λ x. and_right (not (nat_eq x id)) (has x)) in
      omega (arith, less, ap length (i.users name), ap length (users_after a b at id slot i h name), room.users name stated, (capacity name).users);
}
