-- When the plan of an edit is right (own).
use Rattle.std.specs.Prelude.{ℕ, ◌≡◌, ◌<◌, ◌↔◌, List, length, Option, Some, slice_get, Contains}
use Rattle.ti_text.specs.Lists.{AreDistinct}
use Rattle.ti_source.specs.Reading.{Reading, reading_of}
use Rattle.ti_source.specs.Sound.{IsRising}
use Rattle.base_meaning.specs.Exchange.{Exchange}
use Rattle.base_meaning.specs.Dependents.{AreDependents, IsDependent, work}
use Rattle.base_slots.specs.declared.slots.Slot.{Slot}
use Rattle.base_slots.specs.declared.slots.Slots.{Slots}
use Rattle.base_slots.specs.declared.slots.Settled.{Settled}
use Rattle.base_slots.specs.Slots.{ids_of, slots_of, blocks_of, StandsAt}
use Rattle.base_slots.specs.Settled.{IsSettled}
use Rattle.base_dependents.specs.Dependents.{IsExchangeOf}
use Rattle.base_plan.specs.declared.plans.Plan.{Plan}

-- what the slot at a position holds is right
abbrev pub HoldsSettled : Slots → ℕ → Type 0
HoldsSettled slots at = (slot : Slot) → slice_get (slots_of slots) at ≡ Some slot → IsSettled (blocks_of slots) at (reading_of slot.block) slot.settled

-- what the slots hold of blocks that do not depend on the edit is right
abbrev pub OthersAreSettled : Slots → Exchange → Type 0
OthersAreSettled slots exchange = (at : ℕ) → (IsDependent exchange at → ⊥) → HoldsSettled slots at

-- the list came about by an exchange that leaves the others settled
abbrev pub IsReady : Slots → Option ℕ → List (List ℕ) → Type 0
IsReady slots put out = (exchange : Exchange) × IsExchangeOf slots put out exchange × OthersAreSettled slots exchange

-- the plan has the blocks that depend on the edit, each once, what is right for each, their
-- positions in ascending order and the work
pub record IsPlan (slots : Slots) (put : Option ℕ) (out : List (List ℕ)) (plan : Plan) : Type 0 where
  pub as_many : length plan.settled.items ≡ length plan.ids.items
  pub once : AreDistinct plan.ids.items
  pub stands : (i id : ℕ) → slice_get plan.ids.items i ≡ Some id → (at : ℕ) × StandsAt slots at id
  pub rebuilt : (at id : ℕ) → StandsAt slots at id → Contains plan.rebuilt.items at ↔ ((i : ℕ) × (slice_get plan.ids.items i ≡ Some id))
  pub settled : (i at id : ℕ) (block : Reading) (settled : Settled) → slice_get plan.ids.items i ≡ Some id → slice_get plan.settled.items i ≡ Some settled
      → StandsAt slots at id → slice_get (blocks_of slots) at ≡ Some block → IsSettled (blocks_of slots) at block settled
  pub dependents : (exchange : Exchange) → IsExchangeOf slots put out exchange → AreDependents exchange plan.rebuilt.items
  pub steps : plan.work ≡ work (blocks_of slots) plan.rebuilt.items

-- the plan has all blocks of the list in its order, what is right for each, their positions in
-- ascending order and the work
pub record IsPlanOfAll (slots : Slots) (plan : Plan) : Type 0 where
  pub listed : plan.ids.items ≡ (ids_of slots)
  pub as_many : length plan.settled.items ≡ length plan.ids.items
  pub settled : (i at id : ℕ) (block : Reading) (settled : Settled) → slice_get plan.ids.items i ≡ Some id → slice_get plan.settled.items i ≡ Some settled
      → StandsAt slots at id → slice_get (blocks_of slots) at ≡ Some block → IsSettled (blocks_of slots) at block settled
  pub rising : IsRising plan.rebuilt.items
  pub rebuilt : (at : ℕ) → Contains plan.rebuilt.items at ↔ (at < length (ids_of slots))
  pub steps : plan.work ≡ work (blocks_of slots) plan.rebuilt.items
