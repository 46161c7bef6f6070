-- An edit made as an exchange of slots: the list after it, what planning asks, and what is rebuilt.
use Rattle.std.proofs.Common.{◌≡◌, ◌↔◌, inl, inr, ℕ, zero, suc, ◌<◌, ◌≤◌, Bool, true, false, ◌||◌, List, [], ◌∷◌, ◌++◌, length, set, map, Option, Some}
use Rattle.std.proofs.Common.{None, option_map, slice_get, refl, sym, ◌∙◌, ap, subst, arith}
use Rattle.std.specs.Prelude.{IfSome}
use Rattle.std.specs.List.{insert, remove}
use Rattle.std.proofs.lemmas.List.{length-map, length-set, map-set}
use Rattle.std.proofs.lemmas.List.Edits.{length-insert, length-remove}
use Rattle.std.proofs.lemmas.Option.{same_Some, none-some, slice_get-map}
use Rattle.ti_text.specs.Limits.{blocks_max}
use Rattle.ti_source.specs.declared.parsing.Rule.{Rule}
use Rattle.ti_source.specs.Reading.{Reading, reading_of}
use Rattle.base_meaning.specs.Owner.{is_among}
use Rattle.base_meaning.specs.Readings.{reading_by, readings_by}
use Rattle.base_meaning.specs.Edits.{Change, IsInPlace, IsSoundEdit, list_after, insertion, replacement, removal, relocation, with_item_moved}
use Rattle.base_meaning.specs.Exchange.{HasPlace, Exchange, IsExchange, exchange_by, block_from}
use Rattle.base_meaning.specs.Dependents.{AreDependents, IsDependent, lookup_names_of, work}
use Rattle.base_meaning.proofs.EditedLists.{map-insert, map-remove, insert-remove, length-relocated}
use Rattle.base_meaning.proofs.Exchanging.{list_any-append}
use Rattle.base_meaning.proofs.Placing.{get-insert, get-insert_at, split-insert}
use Rattle.base_slots.specs.declared.slots.Slot.{Slot}
use Rattle.base_slots.specs.declared.slots.Slots.{Slots}
use Rattle.base_slots.specs.Slots.{blocks_of, slot_texts, slots_of}
use Rattle.base_slots.proofs.Owners.{length_slots, length_texts}
use Rattle.ti_text.proofs.Lists.{item_at}
use Rattle.base_dependents.specs.Dependents.{IsExchangeOf}
use Rattle.base_plan.specs.Plans.{OthersAreSettled}
use Rattle.ti_base.specs.inside.Database.{AreRead, EachSlot, SlotsAreSettled, IsSoundSlot, HasRule, HaveRule, PlacedSlot, reading_seen, text_seen}
use Rattle.ti_base.specs.inside.Database.{with_slot, block_seen, exchange_with}
use Rattle.ti_base.specs.inside.Texts.{IsBlockText}
use Rattle.ti_base.specs.inside.Exchanges.{out_position, put_position, new_text, IsNewOf, names_seen, without, slot_out, slot_put, spare_after, placed}
use Rattle.ti_base.specs.inside.Exchanges.{placed_put, with_exchange, IsOfSlots, CanExchange, IsMade, IsUndone, IsEdited, IsEditedBy}
use Rattle.ti_base.proofs.SlotLists.{block_read, blocks_read, readings_with}
use Rattle.ti_base.proofs.Untouched.{others_settled, settled_as}
use Rattle.ti_base.proofs.SlotExchanges.{gone, fits_slots, exchanged_back}

-- ---- what holds of each slot

module _ (P : Slot → Type 0) where
  each_without : (xs : List Slot) (out : Option ℕ) → EachSlot P xs → EachSlot P (without xs out)
  each_without xs None h = h
  each_without xs (Some at) h = λ k slot e. let j = gone xs at k slot e in h j.0 slot j.2

  each_with : (rest : List Slot) (at : ℕ) (new : Slot) → at ≤ length rest → P new → EachSlot P rest → EachSlot P (insert rest at new)
  each_with rest at new l s h k slot e =
      elim (split-insert at k) [
        | inl here ↦ subst P (same_Some new slot (sym (get-insert_at rest at new l) ∙ (ap (slice_get (insert rest at new)) here ∙ e))) s
        | inr there ↦ h there.0 slot (sym (get-insert rest at new there.0 l) ∙ (ap (slice_get (insert rest at new)) there.1 ∙ e))
      ]

  one_out : (xs : List Slot) (out : Option ℕ) (slot : Slot) → EachSlot P xs → slot_out xs out ≡ Some slot → P slot
  one_out xs None slot h e = absurd (none-some slot e)
  one_out xs (Some at) slot h e = h at slot e

  one_put : (out spare : Option Slot) → ((slot : Slot) → out ≡ Some slot → P slot) → IfSome spare P → IfSome (slot_put out spare) P
  one_put None None h k = tt
  one_put (Some slot) None h k = h slot refl
  one_put out (Some new) h k = k

  each_placed : (rest : List Slot) (put : Option ℕ) (slot : Option Slot) → IfSome put (λ to. to ≤ length rest) → IfSome slot P → EachSlot P rest
      → EachSlot P (with_slot rest (placed put slot))
  each_placed rest None slot l k h = h
  each_placed rest (Some to) None l k h = h
  each_placed rest (Some to) (Some slot) l k h = each_with rest to slot l k h

  each_exchanged : (xs : List Slot) (out put : Option ℕ) (spare : Option Slot) → IfSome put (λ to. to ≤ length (without xs out)) → EachSlot P xs
      → IfSome spare P → EachSlot P (with_exchange xs out put spare)
  each_exchanged xs out put spare l h k =
      each_placed (without xs out) put (slot_put (slot_out xs out) spare) l (one_put (slot_out xs out) spare (λ slot e. one_out xs out slot h e) k)
      (each_without xs out h)

-- ---- an edit is an exchange

pub can_edit : (slots : Slots) (change : Change) (spare : Option Slot) → AreRead slots → IsInPlace (slot_texts slots) change → IsNewOf slots change spare
    → CanExchange slots (out_position change) (put_position change) spare
can_edit slots (insertion at text) None h l n = absurd (none-some text n.text)
can_edit slots (insertion at text) (Some new) h l n = record {
  from = tt;
  into = (let k : at ≤ length (slot_texts slots) = l in let m : at ≤ length slots.placed = omega (arith, length_texts slots) in m);
  other = refl;
  room = n.room;
}
can_edit slots (replacement at text) None h l n = absurd (none-some text n.text)
can_edit slots (replacement at text) (Some new) h l n =
    let k : at < length (slot_texts slots) = l in
    let m : at < length slots.placed = omega (arith, length_texts slots) in
    let left = length-remove slots.placed at m in
    record {
      from = m;
      into = (let k : at ≤ length (remove slots.placed at) = omega arith in k);
      other = tt;
      room = λ rest taken t. t.rooms (reading_of new.block) n.room;
    }
can_edit slots (removal at) (Some new) h l n = absurd (none-some new.text.items (sym n.text))
can_edit slots (removal at) None h l n = record {
  from = (let k : at < length (slot_texts slots) = l in let m : at < length slots.placed = omega (arith, length_texts slots) in m);
  into = tt;
  other = refl;
  room = tt;
}
can_edit slots (relocation from to) (Some new) h l n = absurd (none-some new.text.items (sym n.text))
can_edit slots (relocation from to) None h l n =
    let f : from < length (slot_texts slots) = l.0 in
    let t : to < length (slot_texts slots) = l.1 in
    let m : from < length slots.placed = omega (arith, length_texts slots) in
    let left = length-remove slots.placed from m in
    record {
      from = m;
      into = (let k : to ≤ length (remove slots.placed from) = omega (arith, length_texts slots) in k);
      other = tt;
      room = tt;
    }

-- the text that an edit brings is that of a block
pub new_is_block : (texts : List (List ℕ)) (change : Change) (text : List ℕ) → IsSoundEdit texts change → Some text ≡ new_text change → IsBlockText text
new_is_block texts (insertion at one) text h e = subst IsBlockText (sym (same_Some text one e)) (record { block = h.block; short = h.short })
new_is_block texts (replacement at one) text h e = subst IsBlockText (sym (same_Some text one e)) (record { block = h.block; short = h.short })
new_is_block texts (removal at) text h e = absurd (none-some text (sym e))
new_is_block texts (relocation from to) text h e = absurd (none-some text (sym e))

insert-set : {X : Type 0} (xs : List X) (at : ℕ) (x : X) → at < length xs → insert (remove xs at) at x ≡ set xs at x
insert-set [] at x l = absurd (omega arith)
insert-set (y ∷ ys) zero x l = refl
insert-set (y ∷ ys) (suc at) x l = ap (λ zs. y ∷ zs) (insert-set ys at x (omega arith))

-- the texts after it
texts_after : (xs : List Slot) (change : Change) (spare : Option Slot) → IsInPlace (map text_seen xs) change
    → option_map (λ slot. slot.text.items) spare ≡ new_text change
    → map text_seen (with_exchange xs (out_position change) (put_position change) spare) ≡ list_after (map text_seen xs) change
texts_after xs (insertion at text) None l e = absurd (none-some text e)
texts_after xs (insertion at text) (Some new) l e = map-insert text_seen xs at new ∙ ap (insert (map text_seen xs) at) (same_Some new.text.items text e)
texts_after xs (replacement at text) None l e = absurd (none-some text e)
texts_after xs (replacement at text) (Some new) l e =
    let k : at < length (map text_seen xs) = l in
    let m : at < length xs = omega (arith, length-map xs text_seen) in
    ap (map text_seen) (insert-set xs at new m) ∙ (map-set text_seen xs at new ∙ ap (set (map text_seen xs) at) (same_Some new.text.items text e))
texts_after xs (removal at) (Some new) l e = absurd (none-some new.text.items (sym e))
texts_after xs (removal at) None l e = map-remove text_seen xs at
texts_after xs (relocation from to) (Some new) l e = absurd (none-some new.text.items (sym e))
texts_after xs (relocation from to) None l e =
    let k : from < length (map text_seen xs) = l.0 in
    let m : from < length xs = omega (arith, length-map xs text_seen) in
    let there = item_at xs from m in
    rw (slice_get-map text_seen xs from, there.1) (map-insert text_seen (remove xs from) to there.0
    ∙ ap (λ ts. insert ts to there.0.text.items) (map-remove text_seen xs from))

few_after : (texts : List (List ℕ)) (change : Change) → IsSoundEdit texts change → length texts ≤ blocks_max → length (list_after texts change) ≤ blocks_max
few_after texts (insertion at text) h l =
    (let n = length-insert texts at text h.in_place in let k : length texts < blocks_max = h.room in let m : length (insert texts at text) ≤ blocks_max =
    omega arith in m)
few_after texts (replacement at text) h l = (let n = length-set texts at text in let m : length (set texts at text) ≤ blocks_max = omega arith in m)
few_after texts (removal at) h l = (let n = length-remove texts at h.in_place in let m : length (remove texts at) ≤ blocks_max = omega arith in m)
few_after texts (relocation from to) h l =
    (let n = length-relocated texts from to h.in_place.0 h.in_place.1 in let m : length (with_item_moved texts from to) ≤ blocks_max = omega arith in m)

readings_seen : (rule : Rule) (slots : Slots) → AreRead slots → HaveRule rule slots → readings_by rule (slot_texts slots) ≡ map reading_seen (slots_of slots)
readings_seen rule slots h r = sym (blocks_read rule slots h r)

-- an exchange is given by its parts
exchange_same : (e : Exchange) (rest : List Slot) (out put : Option PlacedSlot) → e.rest ≡ map reading_seen rest → e.out ≡ option_map block_seen out
    → e.put ≡ option_map block_seen put → e ≡ exchange_with rest out put
exchange_same e rest out put r o p = rw (← r, ← o, ← p) refl

block_there : (bs : List Reading) (slots : List Slot) (from to : ℕ) (slot : Slot) → bs ≡ map reading_seen slots → slice_get slots from ≡ Some slot
    → block_from bs from to ≡ Some (block_seen (record { at = to; slot = slot }))
block_there bs slots from to slot e s =
    let here : slice_get bs from ≡ Some (reading_of slot.block) = ap (λ xs. slice_get xs from) e ∙ (rw (slice_get-map reading_seen slots from, s) refl) in
    rw here refl

text_there : (rule : Rule) (at : ℕ) (text : List ℕ) (new : Slot) → IsSoundSlot new → HasRule rule new → new.text.items ≡ text
    → Some (record { at = at; block = reading_by rule text }) ≡ Some (block_seen (record { at = at; slot = new }))
text_there rule at text new h r e =
    ap (λ b. Some (record { at = at; block = b })) (ap (reading_by rule) (sym e) ∙ sym (block_read rule new h r))

-- the exchange of blocks that it is
abbrev seen_by : (rule : Rule) (old : Slots) (change : Change) (spare : Option Slot) → Type 0
seen_by rule old change spare =
    exchange_by rule (slot_texts old) change
    ≡ exchange_with (without (slots_of old) (out_position change)) (placed (out_position change) (slot_out (slots_of old) (out_position change)))
    (placed_put (slots_of old) (out_position change) (put_position change) spare)

there_in : (old : Slots) (at : ℕ) → AreRead old → at < length (slot_texts old) → (slot : Slot) × (slice_get (slots_of old) at ≡ Some slot)
there_in old at h l = item_at (slots_of old) at (let m : at < length (slots_of old) = omega (arith, length_texts old, length_slots old) in m)

left_in : (rule : Rule) (old : Slots) (at : ℕ) → AreRead old → HaveRule rule old
    → remove (readings_by rule (slot_texts old)) at ≡ map reading_seen (remove (slots_of old) at)
left_in rule old at h r = ap (λ bs. remove bs at) (readings_seen rule old h r) ∙ sym (map-remove reading_seen (slots_of old) at)

-- the block at one position, said to be at another
from_there : (rule : Rule) (old : Slots) (from to : ℕ) (slot : Slot) → AreRead old → HaveRule rule old → slice_get (slots_of old) from ≡ Some slot
    → block_from (readings_by rule (slot_texts old)) from to ≡ Some (block_seen (record { at = to; slot = slot }))
from_there rule old from to slot h r e = block_there (readings_by rule (slot_texts old)) (slots_of old) from to slot (readings_seen rule old h r) e

exchange_seen : (rule : Rule) (old : Slots) (change : Change) (spare : Option Slot) → AreRead old → HaveRule rule old → IsInPlace (slot_texts old) change
    → IsNewOf old change spare → IfSome spare (HasRule rule) → seen_by rule old change spare
exchange_seen rule old (insertion at text) None h r l n m = absurd (none-some text n.text)
exchange_seen rule old (insertion at text) (Some new) h r l n m =
    exchange_same (exchange_by rule (slot_texts old) (insertion at text)) (slots_of old) None (Some (record { at = at; slot = new }))
    (readings_seen rule old h r) refl (text_there rule at text new n.sound m (same_Some new.text.items text n.text))
exchange_seen rule old (replacement at text) None h r l n m = absurd (none-some text n.text)
exchange_seen rule old (replacement at text) (Some new) h r l n m =
    let there = there_in old at h l in
    rw there.1 (exchange_same (exchange_by rule (slot_texts old) (replacement at text)) (remove (slots_of old) at)
    (Some (record { at = at; slot = there.0 })) (Some (record { at = at; slot = new }))
    (left_in rule old at h r) (from_there rule old at at there.0 h r there.1)
    (text_there rule at text new n.sound m (same_Some new.text.items text n.text)))
exchange_seen rule old (removal at) (Some new) h r l n m = absurd (none-some new.text.items (sym n.text))
exchange_seen rule old (removal at) None h r l n m =
    let there = there_in old at h l in
    rw there.1 (exchange_same (exchange_by rule (slot_texts old) (removal at)) (remove (slots_of old) at) (Some (record { at = at; slot = there.0 })) None
    (left_in rule old at h r) (from_there rule old at at there.0 h r there.1) refl)
exchange_seen rule old (relocation from to) (Some new) h r l n m = absurd (none-some new.text.items (sym n.text))
exchange_seen rule old (relocation from to) None h r l n m =
    let there = there_in old from h l.0 in
    rw there.1 (exchange_same (exchange_by rule (slot_texts old) (relocation from to)) (remove (slots_of old) from)
    (Some (record { at = from; slot = there.0 })) (Some (record { at = to; slot = there.0 }))
    (left_in rule old from h r) (from_there rule old from from there.0 h r there.1) (from_there rule old from to there.0 h r there.1))

-- ---- a block taken out that has the names of the block put in

among_twice : (n : List ℕ) (names : List (List ℕ)) → is_among n (names ++ names) ≡ is_among n names
among_twice n names = list_any-append n names names ∙ or_same (is_among n names) where
  or_same : (b : Bool) → (b || b) ≡ b
  or_same true = refl
  or_same false = refl

dependent_moved : (rest : List Slot) (from to : ℕ) (slot : Slot) (at : ℕ)
    → IsDependent (exchange_with rest (Some (record { at = from; slot = slot })) (Some (record { at = to; slot = slot }))) at
    ↔ IsDependent (exchange_with rest None (Some (record { at = to; slot = slot }))) at
dependent_moved rest from to slot at =
    let names = (reading_of slot.block).names in (
      λ d. (d.0, d.1, elim d.2 [ inl put ↦ inl put | inr r ↦ inr (r.0, sym (among_twice r.0 names) ∙ r.1, r.2) ]),
      λ d. (d.0, d.1, elim d.2 [ inl put ↦ inl put | inr r ↦ inr (r.0, among_twice r.0 names ∙ r.1, r.2) ]),
    )

-- so those that depend on the edit are told by the block that is spare after it: a moved block is
-- not, since it is put in
same_dependents : (xs : List Slot) (out put : Option ℕ) (spare : Option Slot) → IfSome out (λ at. at < length xs) → (n : ℕ)
    → IsDependent (exchange_with (without xs out) (placed out (slot_out xs out)) (placed_put xs out put spare)) n
    ↔ IsDependent (exchange_with (without xs out) (placed out (spare_after put (slot_out xs out) spare)) (placed_put xs out put spare)) n
same_dependents xs None put spare l n = (λ d. d, λ d. d)
same_dependents xs (Some at) None spare l n = (λ d. d, λ d. d)
same_dependents xs (Some at) (Some to) None l n = let there = item_at xs at l in rw there.1 (dependent_moved (remove xs at) at to there.0 n)
same_dependents xs (Some at) (Some to) (Some new) l n = let there = item_at xs at l in rw there.1 (λ d. d, λ d. d)

-- ---- what planning asks, and what is rebuilt

old_slots : (xs : List Slot) (out : Option ℕ) → IfSome out (λ at. at < length xs) → xs ≡ with_slot (without xs out) (placed out (slot_out xs out))
old_slots xs None l = refl
old_slots xs (Some at) l = let there = item_at xs at l in rw there.1 (sym (insert-remove xs at there.0 there.1))

placed_fits : (rest : List Slot) (at : Option ℕ) (slot : Option Slot) → IfSome at (λ k. k ≤ length rest)
    → HasPlace (map reading_seen rest) (option_map block_seen (placed at slot))
placed_fits rest None slot l = tt
placed_fits rest (Some at) None l = tt
placed_fits rest (Some at) (Some slot) l =
    (let k : at ≤ length rest = l in let m : at ≤ length (map reading_seen rest) = omega (arith, length-map rest reading_seen) in m)

out_fits : (xs : List Slot) (out : Option ℕ) → IfSome out (λ at. at < length xs) → IfSome out (λ at. at ≤ length (without xs out))
out_fits xs None l = tt
out_fits xs (Some at) l = (let k : at < length xs = l in let n = length-remove xs at k in let m : at ≤ length (remove xs at) = omega arith in m)

names_out : (out put : Option ℕ) (after : Option Slot) → IsOfSlots put out after → lookup_names_of (option_map block_seen (placed out after)) ≡ names_seen after
names_out None None after h = absurd h
names_out None (Some to) after h = rw h refl
names_out (Some at) put None h = refl
names_out (Some at) put (Some slot) h = refl

others_ready : (new : Slots) (rest : List Slot) (out put : Option PlacedSlot) → IsExchange (exchange_with rest out put)
    → SlotsAreSettled (with_slot rest out) → slots_of new ≡ with_slot rest put → OthersAreSettled new (exchange_with rest out put)
others_ready new rest out put fits before is at free slot e =
    let there : slice_get (with_slot rest put) at ≡ Some slot = ap (λ xs. slice_get xs at) (sym is) ∙ e in
    let now = others_settled rest out put fits before at slot there free in
    settled_as (map reading_seen (with_slot rest put)) (blocks_of new) at (reading_of slot.block) slot.settled (ap (map reading_seen) (sym is)) now

-- the list after it is read, and its texts are those of the edit
after_read : (old new : Slots) (change : Change) (spare after : Option Slot) (id : Option ℕ) → AreRead old → IsSoundEdit (slot_texts old) change
    → IsNewOf old change spare → IsMade old new change spare after id → slot_texts new ≡ list_after (slot_texts old) change → AreRead new
after_read old new change spare after id h sound n x texts =
    let can = can_edit old change spare h sound.in_place n in
    let fits = fits_slots old (out_position change) (put_position change) can.into in
    record {
      few = (let k = few_after (slot_texts old) change sound (let n = h.few in omega (arith, length_texts old)) in
          let n : length (slot_texts new) ≡ length (list_after (slot_texts old) change) = ap (λ ts. length ts) texts in omega (arith, length_texts new));
      sound = subst (EachSlot IsSoundSlot) (sym x.slots)
          (each_exchanged IsSoundSlot (slots_of old) (out_position change) (put_position change) spare fits h.sound n.sound);
    }

within_slots : (old : Slots) (out : Option ℕ) → IfSome out (λ at. at < length old.placed) → IfSome out (λ at. at < length (slots_of old))
within_slots old None l = tt
within_slots old (Some at) l = (let k : at < length old.placed = l in let m : at < length (slots_of old) = omega (arith, length_slots old) in m)

-- the exchange of blocks that planning is told, by the block that is spare after it
abbrev told_by : Slots → Change → Option Slot → Option Slot → Exchange
told_by old change spare after =
    exchange_with (without (slots_of old) (out_position change)) (placed (out_position change) after)
    (placed_put (slots_of old) (out_position change) (put_position change) spare)

is_told : (old new : Slots) (change : Change) (spare after : Option Slot) (id : Option ℕ) → AreRead old → IsSoundEdit (slot_texts old) change
    → IsNewOf old change spare → IsMade old new change spare after id → IsExchangeOf new id (names_seen after) (told_by old change spare after)
is_told old new change spare after id h sound n x =
    let out = out_position change in
    let put = put_position change in
    let xs = slots_of old in
    let rest = without xs out in
    let can = can_edit old change spare h sound.in_place n in
    record {
      fits = record {
        out = placed_fits rest out after (out_fits xs out (within_slots old out can.from));
        put = placed_fits rest put (slot_put (slot_out xs out) spare) (fits_slots old out put can.into);
      };
      new = sym (readings_with rest (placed_put xs out put spare)) ∙ ap (map reading_seen) (sym x.slots);
      out_names = names_out out put after x.back.other;
      put_id = x.has_id;
    }

-- the same blocks depend on it
told_same : (old new : Slots) (change : Change) (spare after : Option Slot) (id : Option ℕ) → AreRead old → IsSoundEdit (slot_texts old) change
    → IsNewOf old change spare → IsMade old new change spare after id → (k : ℕ)
    → IsDependent (told_by old change spare (slot_out (slots_of old) (out_position change))) k ↔ IsDependent (told_by old change spare after) k
told_same old new change spare after id h sound n x k =
    let out = out_position change in
    let put = put_position change in
    let can = can_edit old change spare h sound.in_place n in
    subst (λ s. IsDependent (told_by old change spare (slot_out (slots_of old) out)) k ↔ IsDependent (told_by old change spare s) k) (sym x.spare)
    (same_dependents (slots_of old) out put spare (within_slots old out can.from) k)

pub edited : (old new : Slots) (change : Change) (spare after : Option Slot) (id : Option ℕ) → AreRead old → IsSoundEdit (slot_texts old) change
    → IsNewOf old change spare → IsMade old new change spare after id → IsEdited old new change id (names_seen after)
edited old new change spare after id h sound n x =
    let out = out_position change in
    let put = put_position change in
    let xs = slots_of old in
    let rest = without xs out in
    let come = placed_put xs out put spare in
    let was = placed out (slot_out xs out) in
    let can = can_edit old change spare h sound.in_place n in
    let within = within_slots old out can.from in
    let texts : slot_texts new ≡ list_after (slot_texts old) change =
    ap (map text_seen) x.slots ∙ texts_after xs change spare sound.in_place n.text in
    let put_fits : HasPlace (map reading_seen rest) (option_map block_seen come) =
    placed_fits rest put (slot_put (slot_out xs out) spare) (fits_slots old out put can.into) in
    record {
      read = after_read old new change spare after id h sound n x texts;
      texts = texts;
      ready = λ settled. (
        told_by old change spare after,
        is_told old new change spare after id h sound n x,
        λ at free. others_ready new rest was come (record { out = placed_fits rest out (slot_out xs out) (out_fits xs out within); put = put_fits })
            (subst SlotsAreSettled (old_slots xs out within) settled) x.slots at
            (λ d. free ((told_same old new change spare after id h sound n x at).0 d)),
      );
    }

pub edited_by : (rule : Rule) (old new : Slots) (change : Change) (spare after : Option Slot) (id : Option ℕ) → AreRead old → HaveRule rule old
    → IsSoundEdit (slot_texts old) change → IsNewOf old change spare → IfSome spare (HasRule rule) → IsMade old new change spare after id
    → IsEditedBy rule old new change id (names_seen after)
edited_by rule old new change spare after id h r sound n m x =
    let out = out_position change in
    let put = put_position change in
    let can = can_edit old change spare h sound.in_place n in
    let now = edited old new change spare after id h sound n x in
    let same = told_same old new change spare after id h sound n x in
    let ruled : HaveRule rule new =
    subst (EachSlot (HasRule rule)) (sym x.slots) (each_exchanged (HasRule rule) (slots_of old) out put spare (fits_slots old out put can.into) r m) in
    record {
      ruled = ruled;
      rebuilds = λ places steps dependents steps_are.
          let d = dependents (told_by old change spare after) (is_told old new change spare after id h sound n x) in
          let all : AreDependents (told_by old change spare (slot_out (slots_of old) out)) places = record {
            rising = d.rising;
            dependents = λ at. (λ c. (same at).1 ((d.dependents at).0 c), λ e. (d.dependents at).1 ((same at).0 e));
          } in
          record {
            dependents = subst (λ e. AreDependents e places) (sym (exchange_seen rule old change spare h r sound.in_place n m)) all;
            work = steps_are ∙ ap (λ bs. work bs places) (blocks_read rule new now.read ruled ∙ ap (readings_by rule) now.texts);
          };
    }

-- ---- the way back

pub edit_undone : (old new tried back : Slots) (change : Change) (spare after : Option Slot) (id : Option ℕ) → AreRead old → IsSoundEdit (slot_texts old) change
    → IsNewOf old change spare → IsMade old new change spare after id → tried ≡ new → IsUndone tried back change after → slots_of back ≡ slots_of old
edit_undone old new tried back change spare after id h sound n made same undone =
    undone
    ∙ (ap (λ s. with_exchange (slots_of s) (put_position change) (out_position change) after) same
    ∙ exchanged_back old new (out_position change) (put_position change) spare after id (can_edit old change spare h sound.in_place n) made)
