-- What was found out about blocks is put into their slots: nothing else of them changes, and then
-- all are settled.
use Rattle.std.proofs.Common.{◌≡◌, ◌≢◌, ◌⊎◌, inl, inr, ℕ, zero, suc, ◌+◌, ◌<◌, Bool, true, false, cond, List, [], ◌∷◌, length, nat_eq, get_or, set, drop}
use Rattle.std.proofs.Common.{map, All, Option, Some, slice_get, refl, sym, ◌∙◌, ap, subst, arith}
use Rattle.std.proofs.lemmas.Bool.{cases_eq, eq-eqb, false≢true}
use Rattle.std.proofs.lemmas.List.{drop-set-lt}
use Rattle.std.proofs.lemmas.Option.{same_Some, none-some, get_or_from_slice_get}
use Rattle.ti_source.specs.Reading.{reading_of}
use Rattle.base_meaning.specs.Readings.{reading_by}
use Rattle.base_meaning.specs.Usable.{IsUsable}
use Rattle.base_meaning.specs.Dependents.{IsDependent}
use Rattle.ti_text.specs.Lists.{Has}
use Rattle.ti_text.proofs.Lists.{item_at}
use Rattle.base_slots.specs.Listing.{Placed}
use Rattle.base_slots.specs.declared.slots.Slot.{Slot}
use Rattle.base_slots.specs.declared.slots.Settled.{Settled}
use Rattle.base_slots.specs.declared.slots.Slots.{Slots}
use Rattle.base_slots.specs.Slots.{StandsAt, ids_of, slots_of, blocks_of, slot_texts, settled_if, settled_in}
use Rattle.base_slots.specs.Settled.{IsSettled}
use Rattle.base_slots.proofs.Owners.{mapped, id_there, slot_there, block_of_slot, length_slots, length_blocks}
use Rattle.base_slots.proofs.Listings.{neq_false}
use Rattle.base_plan.specs.declared.plans.Plan.{Plan}
use Rattle.base_plan.specs.Plans.{IsReady, IsPlan, IsPlanOfAll}
use Rattle.base_plan.proofs.ItemLists.{drop_item}
use Rattle.ti_base.specs.inside.Texts.{IsBlockText}
use Rattle.ti_base.specs.inside.Database.{AreKept, AreRead, KeepsRule, SlotsAreSettled, SlotsAreSound, reading_seen, text_seen, settled_all}
use Rattle.ti_base.proofs.Untouched.{settled_as}

-- ---- one block

-- nothing else of a block changes
pub record IsSameBlock (p q : Placed) : Type 0 where
  pub id : q.id ≡ p.id
  pub text : q.slot.text ≡ p.slot.text
  pub block : q.slot.block ≡ p.slot.block

same_if : (id : ℕ) (s : Settled) (p : Placed) → IsSameBlock p (settled_if id s p)
same_if id s p = by (nat_eq p.id id) where
  by : (b : Bool) → IsSameBlock p (cond b (record p { slot = record p.slot { settled = s } }) p)
  by true = record { id = refl; text = refl; block = refl }
  by false = record { id = refl; text = refl; block = refl }

-- the block with all that was found out
abbrev pub installed_at : List ℕ → List Settled → Placed → Placed
installed_at [] settled p = p
installed_at (id ∷ ids) [] p = p
installed_at (id ∷ ids) (s ∷ settled) p = installed_at ids settled (settled_if id s p)

same_installed : (ids : List ℕ) (settled : List Settled) (p : Placed) → IsSameBlock p (installed_at ids settled p)
same_installed [] settled p = record { id = refl; text = refl; block = refl }
same_installed (id ∷ ids) [] p = record { id = refl; text = refl; block = refl }
same_installed (id ∷ ids) (s ∷ settled) p =
    let one = same_if id s p in
    let rest = same_installed ids settled (settled_if id s p) in
    record { id = rest.id ∙ one.id; text = rest.text ∙ one.text; block = rest.block ∙ one.block }

-- what was found out about a block is that given for its id, or what it was if none is given
abbrev pub IsFound : List ℕ → List Settled → ℕ → Settled → Settled → Type 0
IsFound ids settled id before after =
    ((i : ℕ) × (slice_get ids i ≡ Some id) × (slice_get settled i ≡ Some after)) ⊎ ((after ≡ before) × ((i : ℕ) → slice_get ids i ≡ Some id → ⊥))

settled_here : (id : ℕ) (s : Settled) (p : Placed) → p.id ≡ id → (settled_if id s p).slot.settled ≡ s
settled_here id s p e = by (nat_eq p.id id) (eq-eqb p.id id e) where
  by : (b : Bool) → b ≡ true → (cond b (record p { slot = record p.slot { settled = s } }) p).slot.settled ≡ s
  by true t = refl
  by false t = absurd (false≢true t)

settled_other : (id : ℕ) (s : Settled) (p : Placed) → p.id ≢ id → (settled_if id s p).slot.settled ≡ p.slot.settled
settled_other id s p n = by (nat_eq p.id id) (neq_false p.id id n) where
  by : (b : Bool) → b ≡ false → (cond b (record p { slot = record p.slot { settled = s } }) p).slot.settled ≡ p.slot.settled
  by true t = absurd (false≢true (sym t))
  by false t = refl

found_all : (ids : List ℕ) (settled : List Settled) (p : Placed) → length settled ≡ length ids
    → IsFound ids settled p.id p.slot.settled (installed_at ids settled p).slot.settled
found_all [] settled p l = inr (refl, λ i h. none-some p.id h)
found_all (first ∷ ids) [] p l = absurd (omega arith)
found_all (first ∷ ids) (s ∷ settled) p l =
    let q = settled_if first s p in
    let same = (same_if first s p).id in
    let rest = found_all ids settled q (let m : length settled ≡ length ids = omega arith in m) in
    elim rest [
      | inl there ↦ inl (suc there.0, there.1 ∙ ap (λ n. Some n) same, there.2)
      | inr none ↦ elim (cases_eq p.id first) [
        | inl e ↦ inl (0, ap (λ n. Some n) (sym e), ap (λ x. Some x) (sym (none.0 ∙ settled_here first s p e)))
        | inr ne ↦ inr (none.0 ∙ settled_other first s p ne, not_in first ids p.id ne (λ i h. none.1 i (h ∙ ap (λ n. Some n) (sym same))))
      ]
    ]
  where
    not_in : (first : ℕ) (ids : List ℕ) (id : ℕ) → id ≢ first → ((i : ℕ) → slice_get ids i ≡ Some id → ⊥) → (i : ℕ) → slice_get (first ∷ ids) i ≡ Some id → ⊥
    not_in first ids id ne none zero e = ne (sym (same_Some first id e))
    not_in first ids id ne none (suc i) e = none i e

-- ---- the list

-- a block was there with what was found out before
was_there : (slots : Slots) (ids : List ℕ) (settled : List Settled) (at : ℕ) (q : Placed) → slice_get (settled_all slots ids settled).placed at ≡ Some q
    → (p : Placed) × (slice_get slots.placed at ≡ Some p) × (installed_at ids settled p ≡ q)
was_there slots [] settled at q e = (q, e, refl)
was_there slots (id ∷ ids) [] at q e = (q, e, refl)
was_there slots (id ∷ ids) (s ∷ settled) at q e =
    let w = was_there (settled_in slots id s) ids settled at q e in
    let p = mapped (settled_if id s) slots.placed at w.0 w.1 in
    (p.0, p.1, ap (installed_at ids settled) p.2 ∙ w.2)

-- what the slots show apart from that stays
module _ {Y : Type 0} (f : Slot → Y) (blind : (slot : Slot) (s : Settled) → f (record slot { settled = s }) ≡ f slot) where
  same_one : (id : ℕ) (s : Settled) (p : Placed) → f (settled_if id s p).slot ≡ f p.slot
  same_one id s p = by (nat_eq p.id id) where
    by : (b : Bool) → f (cond b (record p { slot = record p.slot { settled = s } }) p).slot ≡ f p.slot
    by true = blind p.slot s
    by false = refl

  same_step : (ps : List Placed) (id : ℕ) (s : Settled) → map f (map (λ (p : Placed). p.slot) (map (settled_if id s) ps))
      ≡ map f (map (λ (p : Placed). p.slot) ps)
  same_step [] id s = refl
  same_step (p ∷ ps) id s =
      ap (λ y. y ∷ map f (map (λ (q : Placed). q.slot) (map (settled_if id s) ps))) (same_one id s p) ∙ ap (λ ys. f p.slot ∷ ys) (same_step ps id s)

  pub same_all : (slots : Slots) (ids : List ℕ) (settled : List Settled) → map f (slots_of (settled_all slots ids settled)) ≡ map f (slots_of slots)
  same_all slots [] settled = refl
  same_all slots (id ∷ ids) [] = refl
  same_all slots (id ∷ ids) (s ∷ settled) = same_all (settled_in slots id s) ids settled ∙ same_step slots.placed id s

pub texts_stay : (old new : Slots) (ids : List ℕ) (settled : List Settled) → new ≡ settled_all old ids settled → slot_texts new ≡ slot_texts old
texts_stay old new ids settled h = ap slot_texts h ∙ same_all text_seen (λ slot s. refl) old ids settled

pub blocks_stay : (old new : Slots) (ids : List ℕ) (settled : List Settled) → new ≡ settled_all old ids settled → blocks_of new ≡ blocks_of old
blocks_stay old new ids settled h = ap blocks_of h ∙ same_all reading_seen (λ slot s. refl) old ids settled

-- ---- the step of the loop

ids_step : (ps : List Placed) (id : ℕ) (s : Settled) → map (λ (p : Placed). p.id) (map (settled_if id s) ps) ≡ map (λ (p : Placed). p.id) ps
ids_step [] id s = refl
ids_step (p ∷ ps) id s =
    ap (λ n. n ∷ map (λ (q : Placed). q.id) (map (settled_if id s) ps)) (same_if id s p).id ∙ ap (λ ns. p.id ∷ ns) (ids_step ps id s)

pub all_stay : (slots now : Slots) (ids : List ℕ) (id : ℕ) (s : Settled) → now ≡ settled_in slots id s → All (Has (ids_of slots)) ids
    → All (Has (ids_of now)) ids
all_stay slots now ids id s e h =
    let P : List ℕ → Type 0 = λ xs. All (Has xs) ids in
    subst P (sym (ap ids_of e ∙ ids_step slots.placed id s)) h

pub one_more_settled : (slots : Slots) (ids : List ℕ) (settled : List Settled) (place id : ℕ) (s swapped : Settled) → place < length ids
    → length settled ≡ length ids → id ≡ get_or ids place id → s ≡ get_or settled place s
    → settled_all (settled_in slots id s) (drop (place + 1) ids) (drop (place + 1) (set settled place swapped))
    ≡ settled_all slots (drop place ids) (drop place settled)
one_more_settled slots ids settled place id s swapped l n e f =
    let within : place < length settled = omega arith in
    let less : place < place + 1 = omega arith in
    rw (drop-set-lt (place + 1) settled place swapped less, drop_item ids place id l e, drop_item settled place s within f) refl

-- ---- what a slot holds then

pub record WasSlot (old : Slots) (ids : List ℕ) (settled : List Settled) (at : ℕ) (slot : Slot) : Type 0 where
  pub id : ℕ
  pub stands : StandsAt old at id
  pub before : Slot
  pub was : slice_get (slots_of old) at ≡ Some before
  pub text : slot.text ≡ before.text
  pub block : slot.block ≡ before.block
  pub found : IsFound ids settled id before.settled slot.settled

was_slot : (old new : Slots) (ids : List ℕ) (settled : List Settled) (at : ℕ) (slot : Slot) → length settled ≡ length ids
    → new ≡ settled_all old ids settled → slice_get (slots_of new) at ≡ Some slot → WasSlot old ids settled at slot
was_slot old new ids settled at slot l h e =
    let q = mapped (λ (p : Placed). p.slot) (settled_all old ids settled).placed at slot (ap (λ (s : Slots). slice_get (slots_of s) at) (sym h) ∙ e) in
    let w = was_there old ids settled at q.0 q.1 in
    let p = w.0 in
    let same = same_installed ids settled p in
    let slot_is : (installed_at ids settled p).slot ≡ slot = ap (λ (x : Placed). x.slot) w.2 ∙ q.2 in
    record {
      id = p.id;
      stands = id_there old at p w.1;
      before = p.slot;
      was = slot_there old at p w.1;
      text = ap (λ (s : Slot). s.text) (sym slot_is) ∙ same.text;
      block = ap (λ (s : Slot). s.block) (sym slot_is) ∙ same.block;
      found = subst (λ (s : Slot). IsFound ids settled p.id p.slot.settled s.settled) slot_is (found_all ids settled p l);
    }

-- ---- all blocks are sound and settled

sound_stays : (old new : Slots) (ids : List ℕ) (settled : List Settled) → length settled ≡ length ids → new ≡ settled_all old ids settled
    → SlotsAreSound (slots_of old) → SlotsAreSound (slots_of new)
sound_stays old new ids settled l h k at slot e =
    let w = was_slot old new ids settled at slot l h e in
    let s = k at w.before w.was in
    record {
      text = subst (λ v. IsBlockText v.items) (sym w.text) s.text;
      read = ap (λ b. reading_of b) w.block
          ∙ (s.read ∙ (ap (λ b. reading_by b.rule w.before.text.items) (sym w.block) ∙ ap (λ v. reading_by slot.block.rule v.items) (sym w.text)));
      usable = subst (λ b. IsUsable (reading_of b)) (sym w.block) s.usable;
    }

read_stays : (old new : Slots) (ids : List ℕ) (settled : List Settled) → length settled ≡ length ids → new ≡ settled_all old ids settled → AreRead old
    → AreRead new
read_stays old new ids settled l h read = record {
  few =
      let n : length (blocks_of new) ≡ length (blocks_of old) = ap (λ bs. length bs) (blocks_stay old new ids settled h) in
      let k = read.few in
      omega (arith, length_blocks new, length_blocks old);
  sound = sound_stays old new ids settled l h read.sound;
}

pub rule_stays : (old new : Slots) (ids : List ℕ) (settled : List Settled) → length settled ≡ length ids → new ≡ settled_all old ids settled
    → KeepsRule old new
rule_stays old new ids settled l h rule k at slot e =
    let w = was_slot old new ids settled at slot l h e in
    ap (λ b. b.rule) w.block ∙ k at w.before w.was

-- the block of a slot, as it was before
block_here : (old : Slots) (ids : List ℕ) (settled : List Settled) (at : ℕ) (slot : Slot) → WasSlot old ids settled at slot
    → slice_get (blocks_of old) at ≡ Some (reading_of slot.block)
block_here old ids settled at slot w = block_of_slot old at w.before w.was ∙ ap (λ b. Some (reading_of b)) (sym w.block)

all_settled : (old new : Slots) (put : Option ℕ) (out : List (List ℕ)) (plan : Plan) → IsReady old put out → IsPlan old put out plan
    → new ≡ settled_all old plan.ids.items plan.settled.items → SlotsAreSettled (slots_of new)
all_settled old new put out plan ready is h at slot e =
    let w = was_slot old new plan.ids.items plan.settled.items at slot is.as_many h e in
    let here : IsSettled (blocks_of old) at (reading_of slot.block) slot.settled = elim w.found [
      | inl there ↦ is.settled there.0 at w.id (reading_of slot.block) slot.settled there.1 there.2 w.stands
          (block_here old plan.ids.items plan.settled.items at slot w)
      | inr none ↦
          let other : IsDependent ready.0 at → ⊥ = λ d.
          let i = (is.rebuilt at w.id w.stands).0 (((is.dependents ready.0 ready.1).dependents at).1 d) in
          none.1 i.0 i.1 in
          subst (λ s. IsSettled (blocks_of old) at (reading_of slot.block) s) (sym none.0)
          (subst (λ b. IsSettled (blocks_of old) at (reading_of b) w.before.settled) (sym w.block) (ready.2 at other w.before w.was))
    ] in
    settled_as (blocks_of old) (blocks_of new) at (reading_of slot.block) slot.settled (sym (blocks_stay old new plan.ids.items plan.settled.items h)) here

pub kept_installed : (old new : Slots) (put : Option ℕ) (out : List (List ℕ)) (plan : Plan) → AreRead old → IsReady old put out → IsPlan old put out plan
    → new ≡ settled_all old plan.ids.items plan.settled.items → AreKept new
kept_installed old new put out plan read ready is h = record {
  read = read_stays old new plan.ids.items plan.settled.items is.as_many h read;
  settled = all_settled old new put out plan ready is h;
}

-- ---- all blocks are settled by the plan of all

all_settled_once : (old new : Slots) (plan : Plan) → IsPlanOfAll old plan → new ≡ settled_all old plan.ids.items plan.settled.items
    → SlotsAreSettled (slots_of new)
all_settled_once old new plan is h at slot e =
    let w = was_slot old new plan.ids.items plan.settled.items at slot is.as_many h e in
    let here : IsSettled (blocks_of old) at (reading_of slot.block) slot.settled = elim w.found [
      | inl there ↦ is.settled there.0 at w.id (reading_of slot.block) slot.settled there.1 there.2 w.stands
          (block_here old plan.ids.items plan.settled.items at slot w)
      | inr none ↦ absurd (none.1 at (ap (λ xs. slice_get xs at) is.listed ∙ w.stands))
    ] in
    settled_as (blocks_of old) (blocks_of new) at (reading_of slot.block) slot.settled (sym (blocks_stay old new plan.ids.items plan.settled.items h)) here

pub kept_once : (old new : Slots) (plan : Plan) → AreRead old → IsPlanOfAll old plan → new ≡ settled_all old plan.ids.items plan.settled.items → AreKept new
kept_once old new plan read is h = record {
  read = read_stays old new plan.ids.items plan.settled.items is.as_many h read;
  settled = all_settled_once old new plan is h;
}

-- ---- what planning and installing ask

pub all_usable : (slots : Slots) → AreRead slots → All IsUsable (blocks_of slots)
all_usable slots h = λ k d l.
    let within : k < length (slots_of slots) = omega (arith, length_slots slots, length_blocks slots) in
    let s = item_at (slots_of slots) k within in
    let here = block_of_slot slots k s.0 s.1 in
    subst IsUsable (sym (get_or_from_slice_get (blocks_of slots) k (reading_of s.0.block) d here)) (h.sound k s.0 s.1).usable

pub all_stand : (slots : Slots) (put : Option ℕ) (out : List (List ℕ)) (plan : Plan) → IsPlan slots put out plan → All (Has (ids_of slots)) plan.ids.items
all_stand slots put out plan is = λ k d l.
    let id = item_at plan.ids.items k l in
    let at = is.stands k id.0 id.1 in
    subst (λ n. Has (ids_of slots) n) (sym (get_or_from_slice_get plan.ids.items k id.0 d id.1)) (at.0, at.1)

pub all_listed_stand : (slots : Slots) (plan : Plan) → IsPlanOfAll slots plan → All (Has (ids_of slots)) plan.ids.items
all_listed_stand slots plan is = λ k d l.
    let id = item_at plan.ids.items k l in
    subst (λ n. Has (ids_of slots) n) (sym (get_or_from_slice_get plan.ids.items k id.0 d id.1)) (k, ap (λ xs. slice_get xs k) (sym is.listed) ∙ id.1)
