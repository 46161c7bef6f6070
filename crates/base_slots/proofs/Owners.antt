-- The owner of a name is the first of its holders, its users are the blocks of the list that use it,
-- and blocks of the list by their ids.
use Rattle.std.proofs.Common.{◌≡◌, ℕ, zero, suc, inl, inr, List, [], ◌∷◌, map, length, Bool, true, false, Some, None, nat_eq, slice_get, filter, refl, sym}
use Rattle.std.proofs.Common.{◌∙◌, ap}
use Rattle.std.specs.Option.{option_map_or}
use Rattle.std.specs.Str.{bytes_eq}
use Rattle.std.proofs.lemmas.Bool.{cases_Bool, eqb-true, eq-eqb, false≢true}
use Rattle.std.proofs.lemmas.List.{length-map}
use Rattle.std.proofs.lemmas.Option.{same_Some, none-some, slice_get-map}
use Rattle.ti_source.specs.Reading.{Reading, reading_of}
use Rattle.base_meaning.specs.Owner.{owner}
use Rattle.base_meaning.specs.Reaching.{any_use, Uses}
use Rattle.base_meaning.proofs.Leading.{any_use-used, used-any_use}
use Rattle.ti_text.specs.Lists.{Has, AreDistinct}
use Rattle.base_slots.specs.Listing.{Placed}
use Rattle.base_slots.specs.declared.slots.Slot.{Slot}
use Rattle.base_slots.specs.declared.slots.Slots.{Slots}
use Rattle.base_slots.specs.Slots.{ids_of, slots_of, blocks_of, slot_texts, slot_under, slot_at, reading_at, empty_reading, has_name, uses_name, holders_of}
use Rattle.base_slots.specs.Slots.{users_of, StandsAt, IsOwnerId}

abbrev id_of : Placed → ℕ
id_of p = p.id

abbrev block_of : Placed → Reading
block_of p = reading_of p.slot.block

-- ---- what is at a position

-- an item of a list that was mapped is that of an item
pub mapped : {X Y : Type 0} (f : X → Y) (xs : List X) (at : ℕ) (y : Y) → slice_get (map f xs) at ≡ Some y → (x : X) × (slice_get xs at ≡ Some x) × (f x ≡ y)
mapped f [] at y e = absurd (none-some y e)
mapped f (x ∷ xs) zero y e = (x, refl, same_Some (f x) y e)
mapped f (x ∷ xs) (suc at) y e = mapped f xs at y e

pub id_there : (slots : Slots) (at : ℕ) (p : Placed) → slice_get slots.placed at ≡ Some p → StandsAt slots at p.id
id_there slots at p e = rw (slice_get-map id_of slots.placed at, e) refl

pub slot_there : (slots : Slots) (at : ℕ) (p : Placed) → slice_get slots.placed at ≡ Some p → slice_get (slots_of slots) at ≡ Some p.slot
slot_there slots at p e = rw (slice_get-map (λ (x : Placed). x.slot) slots.placed at, e) refl

pub block_of_slot : (slots : Slots) (at : ℕ) (slot : Slot) → slice_get (slots_of slots) at ≡ Some slot
    → slice_get (blocks_of slots) at ≡ Some (reading_of slot.block)
block_of_slot slots at slot e = rw (slice_get-map (λ (x : Slot). reading_of x.block) (slots_of slots) at, e) refl

pub block_there : (slots : Slots) (at : ℕ) (p : Placed) → slice_get slots.placed at ≡ Some p → slice_get (blocks_of slots) at ≡ Some (reading_of p.slot.block)
block_there slots at p e = block_of_slot slots at p.slot (slot_there slots at p e)

-- the block at a position of which the id is given
pub placed_at : (slots : Slots) (at id : ℕ) → StandsAt slots at id → (p : Placed) × (slice_get slots.placed at ≡ Some p) × (p.id ≡ id)
placed_at slots at id s = mapped id_of slots.placed at id s

-- there are as many ids, slots, blocks and texts
pub length_ids : (slots : Slots) → length (ids_of slots) ≡ length slots.placed
length_ids slots = length-map slots.placed id_of

pub length_slots : (slots : Slots) → length (slots_of slots) ≡ length slots.placed
length_slots slots = length-map slots.placed (λ (p : Placed). p.slot)

pub length_blocks : (slots : Slots) → length (blocks_of slots) ≡ length slots.placed
length_blocks slots = length-map (slots_of slots) (λ (s : Slot). reading_of s.block) ∙ length_slots slots

pub length_texts : (slots : Slots) → length (slot_texts slots) ≡ length slots.placed
length_texts slots = length-map (slots_of slots) (λ (s : Slot). s.text.items) ∙ length_slots slots

-- ---- what is under an id

-- an id has the slot that is first under it
first_under : (ps : List Placed) (id : ℕ) → Has (map id_of ps) id → (at : ℕ) × (p : Placed) × (slice_get ps at ≡ Some p) × (p.id ≡ id)
    × (slot_under ps id ≡ Some p.slot)
first_under [] id (i, e) = absurd (none-some id e)
first_under (p ∷ ps) id (i, e) =
    elim (cases_Bool (nat_eq p.id id)) [
      | inl passes_it ↦ (0, p, refl, eqb-true p.id id passes_it, rw passes_it refl)
      | inr fails_it ↦
          let w = first_under ps id (later p ps id fails_it i e) in
          (suc w.0, w.1, w.2, w.3, rw fails_it w.4)
    ]
  where
    later : (p : Placed) (ps : List Placed) (id : ℕ) → nat_eq p.id id ≡ false → (i : ℕ) → slice_get (map id_of (p ∷ ps)) i ≡ Some id → Has (map id_of ps) id
    later p ps id fails_it zero e = absurd (false≢true (sym fails_it ∙ eq-eqb p.id id (same_Some p.id id e)))
    later p ps id fails_it (suc i) e = (i, e)

-- a slot that is at each position of an id is the one under it
pub slot_by_id : (slots : Slots) (id : ℕ) (slot : Slot) → Has (ids_of slots) id
    → ((at : ℕ) → StandsAt slots at id → slice_get (slots_of slots) at ≡ Some slot) → slot_at slots id ≡ Some slot
slot_by_id slots id slot there all =
    let w = first_under slots.placed id there in
    let stands : StandsAt slots w.0 id = id_there slots w.0 w.1 w.2 ∙ ap (λ k. Some k) w.3 in
    w.4 ∙ (sym (slot_there slots w.0 w.1 w.2) ∙ all w.0 stands)

-- no id is twice: the slot under the id of a position is there
pub slot_standing : (slots : Slots) (at id : ℕ) (slot : Slot) → AreDistinct (ids_of slots) → StandsAt slots at id → slot_at slots id ≡ Some slot
    → slice_get (slots_of slots) at ≡ Some slot
slot_standing slots at id slot once s e =
    let w = first_under slots.placed id (at, s) in
    let same : w.0 ≡ at = once w.0 at id (id_there slots w.0 w.1 w.2 ∙ ap (λ k. Some k) w.3) s in
    ap (slice_get (slots_of slots)) (sym same) ∙ (slot_there slots w.0 w.1 w.2 ∙ (sym w.4 ∙ e))

pub block_at : (slots : Slots) (at id : ℕ) → AreDistinct (ids_of slots) → StandsAt slots at id → slice_get (blocks_of slots) at ≡ Some (reading_at slots id)
block_at slots at id once s =
    let w = first_under slots.placed id (at, s) in
    let here = block_of_slot slots at w.1.slot (slot_standing slots at id w.1.slot once s w.4) in
    here ∙ ap (λ o. Some (option_map_or (λ (x : Slot). reading_of x.block) o empty_reading)) (sym w.4)

-- an id of the list is at some position, with its block
pub block_somewhere : (slots : Slots) (id : ℕ) → Has (ids_of slots) id → (at : ℕ) × StandsAt slots at id
    × (slice_get (blocks_of slots) at ≡ Some (reading_at slots id))
block_somewhere slots id there =
    let w = first_under slots.placed id there in (
      w.0,
      id_there slots w.0 w.1 w.2 ∙ ap (λ k. Some k) w.3,
      block_there slots w.0 w.1 w.2 ∙ ap (λ o. Some (option_map_or (λ (x : Slot). reading_of x.block) o empty_reading)) (sym w.4),
    )

pub id_at : (slots : Slots) (at : ℕ) (block : Reading) → AreDistinct (ids_of slots) → slice_get (blocks_of slots) at ≡ Some block → (id : ℕ)
    × StandsAt slots at id × (reading_at slots id ≡ block)
id_at slots at block once e =
    let s = mapped (λ (x : Slot). reading_of x.block) (slots_of slots) at block e in
    let p = mapped (λ (x : Placed). x.slot) slots.placed at s.0 s.1 in
    let stands = id_there slots at p.0 p.1 in
    (p.0.id, stands, same_Some (reading_at slots p.0.id) block (sym (block_at slots at p.0.id once stands) ∙ e))

-- ---- the first of those that have a name

first_owns : (name : List ℕ) (ps : List Placed) (id : ℕ) → slice_get (map id_of (filter (has_name name) ps)) 0 ≡ Some id → (at : ℕ)
    × (owner (map (λ (s : Slot). reading_of s.block) (map (λ (p : Placed). p.slot) ps)) name ≡ Some at) × (slice_get (map id_of ps) at ≡ Some id)
first_owns name [] id e = absurd (none-some id e)
first_owns name (p ∷ ps) id e =
    elim (cases_Bool (has_name name p)) [
      | inl has ↦ (0, rw has refl, rw has at e)
      | inr lacks ↦
          let w = first_owns name ps id (rw lacks at e) in
          (suc w.0, rw (lacks, w.1) refl, w.2)
    ]

none_owns : (name : List ℕ) (ps : List Placed) → slice_get (map id_of (filter (has_name name) ps)) 0 ≡ None
    → owner (map (λ (s : Slot). reading_of s.block) (map (λ (p : Placed). p.slot) ps)) name ≡ None
none_owns name [] e = refl
none_owns name (p ∷ ps) e =
    elim (cases_Bool (has_name name p)) [
      | inl has ↦ (let some : Some p.id ≡ None = rw has at e in cc)
      | inr lacks ↦ (let rest = none_owns name ps (rw lacks at e) in rw (lacks, rest) refl)
    ]

-- the first of a name's holders owns it, and if there is none nobody does
pub first_holder : (slots : Slots) (name : List ℕ) (id : ℕ) → slice_get (holders_of slots name) 0 ≡ Some id → IsOwnerId slots name id
first_holder slots name id e = first_owns name slots.placed id e

pub no_holder : (slots : Slots) (name : List ℕ) → slice_get (holders_of slots name) 0 ≡ None → owner (blocks_of slots) name ≡ None
no_holder slots name e = none_owns name slots.placed e

-- ---- the blocks of the list that pass a test

-- a block with the id passes
abbrev Passes : (Placed → Bool) → List Placed → ℕ → Type 0
Passes test ps id = (at : ℕ) × (p : Placed) × (slice_get ps at ≡ Some p) × (p.id ≡ id) × (test p ≡ true)

passes_first : (test : Placed → Bool) (p : Placed) (ps : List Placed) (ids : List ℕ) (id : ℕ) → test p ≡ true
    → ((k : ℕ) → slice_get ids k ≡ Some id → Passes test ps id) → (k : ℕ) → slice_get (p.id ∷ ids) k ≡ Some id → Passes test (p ∷ ps) id
passes_first test p ps ids id passes later zero e = (0, p, refl, same_Some p.id id e, passes)
passes_first test p ps ids id passes later (suc k) e = let w = later k e in (suc w.0, w.1, w.2, w.3, w.4)

filter_stands : (test : Placed → Bool) (ps : List Placed) (k id : ℕ) → slice_get (map id_of (filter test ps)) k ≡ Some id → Passes test ps id
filter_stands test [] k id e = absurd (none-some id e)
filter_stands test (p ∷ ps) k id e =
    elim (cases_Bool (test p)) [
      | inl passes ↦ passes_first test p ps (map id_of (filter test ps)) id passes (λ j. filter_stands test ps j id) k (rw passes at e)
      | inr fails ↦ (let w = filter_stands test ps k id (rw fails at e) in (suc w.0, w.1, w.2, w.3, w.4))
    ]

stands_filter : (test : Placed → Bool) (ps : List Placed) (at : ℕ) (p : Placed) → slice_get ps at ≡ Some p → test p ≡ true
    → Has (map id_of (filter test ps)) p.id
stands_filter test [] at p e passes = absurd (none-some p e)
stands_filter test (q ∷ ps) zero p e passes =
    let same : q ≡ p = same_Some q p e in
    let first : test q ≡ true = ap test same ∙ passes in
    rw first (0, ap (λ (x : Placed). Some x.id) same)
stands_filter test (q ∷ ps) (suc at) p e passes =
    let w = stands_filter test ps at p e passes in
    elim (cases_Bool (test q)) [
      | inl t ↦ rw t (suc w.0, w.1)
      | inr t ↦ rw t w
    ]

-- each user of a name is in the list and uses it, and each block that uses it is one
pub user_uses : (slots : Slots) (name : List ℕ) (k id : ℕ) → slice_get (users_of slots name) k ≡ Some id → (at : ℕ) × (block : Reading)
    × StandsAt slots at id × (slice_get (blocks_of slots) at ≡ Some block) × Uses block.items name
user_uses slots name k id e =
    let w = filter_stands (uses_name name) slots.placed k id e in (
      w.0,
      block_of w.1,
      id_there slots w.0 w.1 w.2 ∙ ap (λ k. Some k) w.3,
      block_there slots w.0 w.1 w.2,
      any_use-used name (block_of w.1).items w.4,
    )

pub uses_user : (slots : Slots) (name : List ℕ) (at id : ℕ) (block : Reading) → StandsAt slots at id → slice_get (blocks_of slots) at ≡ Some block
    → Uses block.items name → Has (users_of slots name) id
uses_user slots name at id block s e u =
    let w = placed_at slots at id s in
    let same : block_of w.0 ≡ block = same_Some (block_of w.0) block (sym (block_there slots at w.0 w.1) ∙ e) in
    let there = stands_filter (uses_name name) slots.placed at w.0 w.1 (ap (λ (b : Reading). any_use (bytes_eq name) b.items) same
    ∙ used-any_use name block.items u) in
    (there.0, there.1 ∙ ap (λ k. Some k) w.2)
