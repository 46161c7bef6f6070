-- Slots exchanged: what becomes of the list, the way back, and what planning asks of an edit made
-- so.
use Rattle.std.proofs.Common.{◌≡◌, ◌≢◌, inl, inr, ℕ, zero, suc, ◌+◌, ◌<◌, ◌≤◌, List, [], ◌∷◌, length, map, Option, Some, None, slice_get, refl, sym, ◌∙◌}
use Rattle.std.proofs.Common.{ap, subst, arith}
use Rattle.std.specs.Prelude.{IfSome, IsSome}
use Rattle.std.specs.List.{insert, remove}
use Rattle.std.proofs.lemmas.Bool.{false≢true}
use Rattle.std.proofs.lemmas.List.{length-map}
use Rattle.std.proofs.lemmas.List.Edits.{length-insert, length-remove}
use Rattle.std.proofs.lemmas.Option.{same_Some, none-some}
use Rattle.ti_source.specs.declared.parsing.Rule.{Rule}
use Rattle.ti_source.specs.Reading.{Reading, reading_of}
use Rattle.base_meaning.proofs.EditedLists.{map-insert, map-remove, insert-remove, remove-insert}
use Rattle.base_meaning.proofs.Placing.{get-insert, get-insert_at, split-insert}
use Rattle.ti_text.proofs.Lists.{item_at}
use Rattle.base_slots.specs.Listing.{Placed}
use Rattle.base_slots.specs.declared.slots.Slot.{Slot}
use Rattle.base_slots.specs.declared.slots.Slots.{Slots}
use Rattle.base_slots.specs.Slots.{StandsAt, ids_of, slots_of, slot_texts}
use Rattle.base_slots.specs.Changes.{HasRoomFor, PutsIn, TakesOut}
use Rattle.base_slots.proofs.Owners.{length_ids, length_slots, slot_there}
use Rattle.base_slots.proofs.Undoing.{fits_again}
use Rattle.ti_base.specs.inside.Database.{AreKept, AreRead, HaveRule, SlotsAreSettled, SlotsAreSound, text_seen, with_slot, HasId}
use Rattle.ti_base.specs.inside.Exchanges.{without, slot_out, slot_put, slot_left, spare_after, placed, placed_put, with_exchange, IsOfSlots, HasRoomThen}
use Rattle.ti_base.specs.inside.Exchanges.{CanExchange, IsOut, IsExchanged}

-- ---- a slot is put in or taken out

slots_put : (old new : Slots) (at id : ℕ) (slot : Slot) → PutsIn old new at slot id → slots_of new ≡ insert (slots_of old) at slot
slots_put old new at id slot h =
    ap (map (λ (p : Placed). p.slot)) h.placed ∙ map-insert (λ (p : Placed). p.slot) old.placed at (record { id = id; slot = slot })

ids_put : (old new : Slots) (at id : ℕ) (slot : Slot) → PutsIn old new at slot id → ids_of new ≡ insert (ids_of old) at id
ids_put old new at id slot h = ap (map (λ (p : Placed). p.id)) h.placed ∙ map-insert (λ (p : Placed). p.id) old.placed at (record { id = id; slot = slot })

id_put : (old new : Slots) (at id : ℕ) (slot : Slot) → at ≤ length old.placed → PutsIn old new at slot id
    → HasId new (Some (record { at = at; slot = slot })) (Some id)
id_put old new at id slot l h =
    let ids = ids_of old in
    let listed = ids_put old new at id slot h in
    let within : at ≤ length ids = omega (arith, length_ids old) in
    λ k other stands. (
      (λ e. sym (get-insert_at ids at id within) ∙ (ap (slice_get (insert ids at id)) e ∙ (ap (λ xs. slice_get xs k) (sym listed) ∙ stands))),
      (λ e. elim (split-insert at k) [
        | inl same ↦ same
        | inr behind ↦ absurd (h.fresh (
          behind.0,
          sym (get-insert ids at id behind.0 within)
              ∙ (ap (slice_get (insert ids at id)) behind.1 ∙ (ap (λ xs. slice_get xs k) (sym listed) ∙ (stands ∙ sym e))),
        ))
      ]),
    )

stands_put : (old new : Slots) (at id : ℕ) (slot : Slot) → at ≤ length old.placed → PutsIn old new at slot id → StandsAt new at id
stands_put old new at id slot l h =
    let within : at ≤ length (ids_of old) = omega (arith, length_ids old) in
    ap (λ xs. slice_get xs at) (ids_put old new at id slot h) ∙ get-insert_at (ids_of old) at id within

-- the position of an item in a list without the one at a position
pub gone : {X : Type 0} (xs : List X) (at k : ℕ) (x : X) → slice_get (remove xs at) k ≡ Some x → (j : ℕ) × (j ≢ at) × (slice_get xs j ≡ Some x)
gone [] zero k x e = absurd (none-some x e)
gone [] (suc at) k x e = absurd (none-some x e)
gone (y ∷ ys) zero k x e = (suc k, (λ z. omega arith), e)
gone (y ∷ ys) (suc at) zero x e = (0, (λ z. omega arith), e)
gone (y ∷ ys) (suc at) (suc k) x e = let r = gone ys at k x e in (suc r.0, (λ z. r.1 (omega arith)), r.2)

slots_taken : (old new : Slots) (at : ℕ) (slot : Slot) → TakesOut old new at slot → slots_of new ≡ remove (slots_of old) at
slots_taken old new at slot h = ap (map (λ (p : Placed). p.slot)) h.placed ∙ map-remove (λ (p : Placed). p.slot) old.placed at

slot_taken : (old new : Slots) (at : ℕ) (slot : Slot) → TakesOut old new at slot → slice_get (slots_of old) at ≡ Some slot
slot_taken old new at slot h = slot_there old at (record { id = h.id; slot = slot }) h.was

-- the list has the same slots
pub slots_same : (old new : Slots) → new.placed ≡ old.placed → slots_of new ≡ slots_of old
slots_same old new e = ap (map (λ (p : Placed). p.slot)) e

-- ---- the slots that stay the same

pub texts_back : (old new : Slots) → slots_of new ≡ slots_of old → slot_texts new ≡ slot_texts old
texts_back old new e = ap (map text_seen) e

-- what was read stays so if the list has the same slots
pub read_same : (old new : Slots) → AreRead old → slots_of new ≡ slots_of old → AreRead new
read_same old new h e = record {
  few = (let n : length (slots_of new) ≡ length (slots_of old) = ap (λ xs. length xs) e in let k = h.few in omega (arith, length_slots new, length_slots old));
  sound = subst SlotsAreSound (sym e) h.sound;
}

pub kept_same : (old new : Slots) → AreKept old → AreRead new → slots_of new ≡ slots_of old → AreKept new
kept_same old new h read e = record { read = read; settled = subst SlotsAreSettled (sym e) h.settled }

-- no slot is read from its text
pub read_none : (slots : Slots) → slots.placed ≡ [] → AreRead slots
read_none slots none = record {
  few = rw none (omega arith);
  sound = λ at slot e. absurd (none-some slot (ap (λ ps. slice_get (map (λ (p : Placed). p.slot) ps) at) (sym none) ∙ e));
}

-- nor by another rule
pub rule_none : (rule : Rule) (slots : Slots) → slots.placed ≡ [] → HaveRule rule slots
rule_none rule slots none at slot e = absurd (none-some slot (ap (λ ps. slice_get (map (λ (p : Placed). p.slot) ps) at) (sym none) ∙ e))

-- ---- an exchange

-- the list and the slot once a block was taken out, if one was
pub record IsLeft (old rest : Slots) (out : Option ℕ) (taken : Option Slot) : Type 0 where
  pub slots : slots_of rest ≡ without (slots_of old) out
  pub slot : taken ≡ slot_out (slots_of old) out
  pub placed : rest.placed ≡ without old.placed out

pub is_left : (old rest : Slots) (out : Option ℕ) (taken : Option Slot) → IsOut old rest out taken → IsLeft old rest out taken
is_left old rest None taken is = record { slots = ap slots_of is.0; slot = is.1; placed = ap (λ (s : Slots). s.placed) is.0 }
is_left old rest (Some at) taken is = record {
  slots = slots_taken old rest at is.0 is.2;
  slot = is.1 ∙ sym (slot_taken old rest at is.0 is.2);
  placed = is.2.placed;
}

no_id : (slots : Slots) → HasId slots None None
no_id slots = λ at other stands. ((λ h. absurd h), (λ e. absurd (none-some other e)))

-- nothing is put in
pub exchanged_out : (old rest : Slots) (out : Option ℕ) (spare taken : Option Slot) → CanExchange old out None spare → IsOut old rest out taken
    → IsExchanged old rest out None spare taken None
exchanged_out old rest None spare taken can is = absurd can.other
exchanged_out old rest (Some at) spare taken can is =
    let left = is_left old rest (Some at) taken is in
    let n = length-remove old.placed at can.from in
    record {
      slots = left.slots;
      spare = left.slot;
      has_id = no_id rest;
      listed = λ n e. absurd (none-some n e);
      back = record {
        from = tt;
        into = (let m : length rest.placed ≡ length (remove old.placed at) = ap (λ xs. length xs) left.placed in let l : at < length old.placed =
            can.from in let k : at ≤ length rest.placed = omega arith in k);
        other = rw is.1 refl;
        room = rw is.1 is.2.room;
      };
    }

-- a block is put in: it is there, it fits, and there is room for it
pub put_fits : (old rest : Slots) (out : Option ℕ) (to : ℕ) (spare taken : Option Slot) → CanExchange old out (Some to) spare → IsOut old rest out taken
    → to ≤ length rest.placed
put_fits old rest out to spare taken can is = rw (is_left old rest out taken is).placed can.into

pub put_there : (old rest : Slots) (out : Option ℕ) (to : ℕ) (spare taken : Option Slot) → CanExchange old out (Some to) spare → IsOut old rest out taken
    → IsSome (slot_put taken spare)
put_there old rest out to (Some new) taken can is = refl
put_there old rest None to None taken can is = absurd (false≢true can.other)
put_there old rest (Some at) to None taken can is = rw is.1 refl

room_then : (old rest : Slots) (out : Option ℕ) (taken : Option Slot) (block : Reading) → HasRoomThen old out block → IsOut old rest out taken
    → HasRoomFor rest block
room_then old rest None taken block room is = subst (λ s. HasRoomFor s block) (sym is.0) room
room_then old rest (Some at) taken block room is = room rest is.0 is.2

pub put_room : (old rest : Slots) (out : Option ℕ) (to : ℕ) (spare taken : Option Slot) (slot : Slot) → CanExchange old out (Some to) spare
    → IsOut old rest out taken → Some slot ≡ slot_put taken spare → HasRoomFor rest (reading_of slot.block)
put_room old rest out to (Some new) taken slot can is e =
    subst (λ (s : Slot). HasRoomFor rest (reading_of s.block)) (sym (same_Some slot new e)) (room_then old rest out taken (reading_of new.block) can.room is)
put_room old rest None to None taken slot can is e = absurd (false≢true can.other)
put_room old rest (Some at) to None taken slot can is e =
    subst (λ (s : Slot). HasRoomFor rest (reading_of s.block)) (sym (same_Some slot is.0 (e ∙ is.1))) is.2.room

-- once it is taken out again, there is room for the one that was taken out before
room_back : (old rest new : Slots) (out : Option ℕ) (to id : ℕ) (spare taken : Option Slot) (slot : Slot) → to ≤ length rest.placed
    → IsOut old rest out taken → PutsIn rest new to slot id → IfSome (slot_left taken spare) (λ s. HasRoomThen new (Some to) (reading_of s.block))
room_back old rest new out to id None taken slot fits is put = tt
room_back old rest new out to id (Some one) None slot fits is put = tt
room_back old rest new None to id (Some one) (Some gone) slot fits is put = absurd (none-some gone (sym is.1))
room_back old rest new (Some at) to id (Some one) (Some gone) slot fits is put =
    let room = subst (λ (s : Slot). HasRoomFor rest (reading_of s.block)) (sym (same_Some gone is.0 is.1)) is.2.room in
    λ back again taken. fits_again rest new back to slot again id fits put taken (reading_of gone.block) room

pub exchanged_put : (old rest new : Slots) (out : Option ℕ) (to id : ℕ) (spare taken after : Option Slot) (slot : Slot) → CanExchange old out (Some to) spare
    → IsOut old rest out taken → PutsIn rest new to slot id → Some slot ≡ slot_put taken spare → after ≡ slot_left taken spare
    → IsExchanged old new out (Some to) spare after (Some id)
exchanged_put old rest new out to id spare taken after slot can is put e f =
    let left = is_left old rest out taken is in
    let fits = put_fits old rest out to spare taken can is in
    let come : Some (record { at = to; slot = slot }) ≡ placed_put (slots_of old) out (Some to) spare =
    ap (placed (Some to)) (e ∙ ap (λ t. slot_put t spare) left.slot) in
    let one : Placed = record { id = id; slot = slot } in
    let again : remove new.placed to ≡ rest.placed = ap (λ xs. remove xs to) put.placed ∙ remove-insert rest.placed to one fits in
    let n : length new.placed ≡ length rest.placed + 1 = ap (λ xs. length xs) put.placed ∙ length-insert rest.placed to one fits in
    record {
      slots = slots_put rest new to id slot put ∙ (ap (λ xs. insert xs to slot) left.slots ∙ ap (with_slot (without (slots_of old) out)) come);
      spare = f ∙ ap (λ t. slot_left t spare) left.slot;
      has_id = subst (λ o. HasId new o (Some id)) come (id_put rest new to id slot fits put);
      listed = λ k e. (to, stands_put rest new to id slot fits put ∙ e);
      back = record {
        from = (let l : to < length new.placed = omega arith in l);
        into = out_fits out can.from (again ∙ left.placed);
        other = of_slots out spare taken after is f;
        room = subst (λ o. IfSome o (λ s. HasRoomThen new (Some to) (reading_of s.block))) (sym f)
            (room_back old rest new out to id spare taken slot fits is put);
      };
    }
  where
    out_fits : (out : Option ℕ) → IfSome out (λ at. at < length old.placed) → remove new.placed to ≡ without old.placed out
        → IfSome out (λ at. at ≤ length (remove new.placed to))
    out_fits None l e = tt
    out_fits (Some at) l e =
        let n = length-remove old.placed at l in
        let m : length (remove new.placed to) ≡ length (remove old.placed at) = ap (λ xs. length xs) e in
        let k : at < length old.placed = l in
        let fits : at ≤ length (remove new.placed to) = omega arith in
        fits

    of_slots : (out : Option ℕ) (spare taken after : Option Slot) → IsOut old rest out taken → after ≡ slot_left taken spare → IsOfSlots (Some to) out after
    of_slots None None taken after is f = f
    of_slots None (Some one) taken after is f = f ∙ is.1
    of_slots (Some at) spare taken after is f = tt

-- ---- the way back

pub fits_slots : (slots : Slots) (out put : Option ℕ) → IfSome put (λ to. to ≤ length (without slots.placed out))
    → IfSome put (λ to. to ≤ length (without (slots_of slots) out))
fits_slots slots out None l = tt
fits_slots slots None (Some to) l = (let k : to ≤ length slots.placed = l in let m : to ≤ length (slots_of slots) = omega (arith, length_slots slots) in m)
fits_slots slots (Some at) (Some to) l =
    let f : Placed → Slot = λ p. p.slot in
    let n : length (remove (slots_of slots) at) ≡ length (remove slots.placed at) =
    ap (λ xs. length xs) (sym (map-remove f slots.placed at)) ∙ length-map (remove slots.placed at) f in
    let k : to ≤ length (remove slots.placed at) = l in
    let m : to ≤ length (remove (slots_of slots) at) = omega arith in
    m

back_at : (rest : List Slot) (to : ℕ) (x : Slot) → to ≤ length rest → (remove (insert rest to x) to ≡ rest) × (slot_out (insert rest to x) (Some to) ≡ Some x)
back_at rest to x l = (remove-insert rest to x l, get-insert_at rest to x l)

-- what is exchanged and exchanged back leaves the slots
undone : (xs : List Slot) (out put : Option ℕ) (spare : Option Slot) → IsOfSlots out put spare → IfSome out (λ at. at < length xs)
    → IfSome put (λ to. to ≤ length (without xs out)) → with_exchange (with_exchange xs out put spare) put out (spare_after put (slot_out xs out) spare) ≡ xs
undone xs None None spare s l m = absurd s
undone xs None (Some to) None s l m = absurd (false≢true s)
undone xs None (Some to) (Some new) s l m = remove-insert xs to new m
undone xs (Some at) None spare s l m = let there = item_at xs at l in rw there.1 (insert-remove xs at there.0 there.1)
undone xs (Some at) (Some to) None s l m =
    let there = item_at xs at l in
    let rest = remove xs at in
    let put : Slot = there.0 in
    let b = back_at rest to put m in
    rw there.1 (ap (λ o. with_slot (remove (insert rest to put) to) (placed (Some at) (slot_put o None))) b.1
    ∙ (ap (λ ys. insert ys at put) b.0 ∙ insert-remove xs at put there.1))
undone xs (Some at) (Some to) (Some new) s l m =
    let there = item_at xs at l in
    let rest = remove xs at in
    let b = back_at rest to new m in
    rw there.1 (ap (λ o. with_slot (remove (insert rest to new) to) (placed (Some at) (slot_put o (Some there.0)))) b.1
    ∙ (ap (λ ys. insert ys at there.0) b.0 ∙ insert-remove xs at there.0 there.1))

pub exchanged_back : (old new : Slots) (out put : Option ℕ) (spare after : Option Slot) (id : Option ℕ) → CanExchange old out put spare
    → IsExchanged old new out put spare after id → with_exchange (slots_of new) put out after ≡ slots_of old
exchanged_back old new out put spare after id can x =
    ap (λ a. with_exchange (slots_of new) put out a) x.spare
    ∙ (ap (λ xs. with_exchange xs put out (spare_after put (slot_out (slots_of old) out) spare)) x.slots
    ∙ undone (slots_of old) out put spare can.other (out_within out can.from) (fits_slots old out put can.into))
  where
    out_within : (out : Option ℕ) → IfSome out (λ at. at < length old.placed) → IfSome out (λ at. at < length (slots_of old))
    out_within None l = tt
    out_within (Some at) l = (let k : at < length old.placed = l in let m : at < length (slots_of old) = omega (arith, length_slots old) in m)
