-- What is known while the blocks that depend on an edit are settled (own).
use Rattle.std.specs.Prelude.{ℕ, ◌≡◌, ◌⊎◌, ◌↔◌, List, length, slice_index, Option, Some, None, is_some, Bool, slice_get, All, Contains, false}
use Rattle.ti_source.specs.Reading.{Reading, ReadItem, Said}
use Rattle.ti_layout.specs.Values.{contents, Contents, Mention}
use Rattle.ti_source.specs.Sound.{IsRising}
use Rattle.base_meaning.specs.Dependents.{work}
use Rattle.base_meaning.specs.Owner.{owner_block}
use Rattle.base_meaning.specs.Expansion.{expansion}
use Rattle.base_meaning.specs.Reaching.{used_name, Uses, leads_to}
use Rattle.base_meaning.specs.Faults.{use_fault}
use Rattle.base_meaning.specs.Usable.{IsUsable}
use Rattle.base_meaning.specs.UseLaws.{AreFound, HaveOneNumber}
use Rattle.base_meaning.specs.ValueTables.{HasTable, IsTableOfMentions}
use Rattle.base_components.specs.Graph.{HasEdge, IsGraph}
use Rattle.base_components.specs.Components.{AreComponents}
use Rattle.ti_text.specs.Lists.{AreDistinct}
use Rattle.base_slots.specs.declared.slots.Slots.{Slots}
use Rattle.base_slots.specs.declared.slots.Settled.{Settled}
use Rattle.base_slots.specs.declared.slots.State.{State}
use Rattle.base_slots.specs.Slots.{ids_of, blocks_of, StandsAt, IsOwnerId}
use Rattle.base_slots.specs.Settled.{IsSettled, table_of}
use Rattle.base_dependents.specs.declared.dependents.Dependents.{Dependents}
use Rattle.base_dependents.specs.Dependents.{IsGraphOfUses}
use Rattle.base_plan.specs.declared.owners.Known.{Known}
use Rattle.base_plan.specs.declared.plans.Plan.{Plan}
use Rattle.base_plan.specs.Plans.{HoldsSettled}

-- blocks of a list with all that use them, and their uses of each other; what the slots hold of all
-- other blocks is right
pub record AreFoundIn (slots : Slots) (dependents : Dependents) : Type 0 where
  pub usable : All IsUsable (blocks_of slots)
  pub distinct : AreDistinct (ids_of slots)
  pub as_many : length dependents.positions.items ≡ length dependents.ids.items
  pub stands : (i id at : ℕ) → slice_get dependents.ids.items i ≡ Some id → slice_get dependents.positions.items i ≡ Some at → StandsAt slots at id
  pub once : AreDistinct dependents.ids.items
  pub closed : AreFound (blocks_of slots) dependents.positions.items
  pub graph : IsGraphOfUses slots dependents.ids.items dependents.uses
  pub whole : IsGraph dependents.uses
  pub others : (at : ℕ) → (Contains dependents.positions.items at → ⊥) → HoldsSettled slots at

-- the position of a node's block
abbrev pub node_position : Dependents → ℕ → ℕ
node_position dependents node = slice_index dependents.positions.items node

-- the plan has the blocks found, what is right for each, and their positions and work
pub record IsPlanOf (slots : Slots) (dependents : Dependents) (plan : Plan) : Type 0 where
  pub ids : plan.ids ≡ dependents.ids
  pub as_many : length plan.settled.items ≡ length dependents.ids.items
  pub settled : (node at : ℕ) (block : Reading) (one : Settled) → slice_get plan.settled.items node ≡ Some one
      → slice_get dependents.positions.items node ≡ Some at
      → slice_get (blocks_of slots) at ≡ Some block → IsSettled (blocks_of slots) at block one
  pub rising : IsRising plan.rebuilt.items
  pub members : (at : ℕ) → Contains plan.rebuilt.items at ↔ Contains dependents.positions.items at
  pub steps : plan.work ≡ work (blocks_of slots) plan.rebuilt.items

-- what was found out about the block at a node is right
abbrev pub IsSettledNode : Slots → Dependents → List Settled → ℕ → Type 0
IsSettledNode slots dependents settled node = (at : ℕ) (block : Reading) (one : Settled)
    → slice_get settled node ≡ Some one → slice_get dependents.positions.items node ≡ Some at
    → slice_get (blocks_of slots) at ≡ Some block → IsSettled (blocks_of slots) at block one

-- what was found out about each block of the graph is right
pub record AreAllSettled (slots : Slots) (dependents : Dependents) (settled : List Settled) : Type 0 where
  pub as_many : length settled ≡ length dependents.ids.items
  pub right : (node : ℕ) → IsSettledNode slots dependents settled node

-- what is known as a block is settled
pub record IsKnown (slots : Slots) (dependents : Dependents) (component_of : List ℕ) (settled : List Settled) : Type 0 where
  pub found : AreFoundIn slots dependents
  pub components : AreComponents dependents.uses component_of
  pub as_many : length settled ≡ length dependents.ids.items

-- each block that the one at the node uses is of its component or settled
abbrev pub HasSettledOwners : Slots → Dependents → List ℕ → List Settled → ℕ → Type 0
HasSettledOwners slots dependents component_of settled node =
    (owner : ℕ) → HasEdge dependents.uses node owner
    → HaveOneNumber component_of node owner ⊎ IsSettledNode slots dependents settled owner

-- the block at the node, which is at that position of the list, can be settled
pub record CanBeSettled (slots : Slots) (dependents : Dependents) (component_of : List ℕ) (settled : List Settled) (node at : ℕ) : Type 0 where
  pub known : IsKnown slots dependents component_of settled
  pub stands : slice_get dependents.positions.items node ≡ Some at
  pub owners : HasSettledOwners slots dependents component_of settled node

-- all that is read to settle it is known
abbrev pub CanSettle : Known → ℕ → ℕ → Type 0
CanSettle known node at = CanBeSettled known.slots.now known.dependents.now known.component_of.now known.settled.now node at

-- the blocks of the list
abbrev pub blocks_known : Known → List Reading
blocks_known known = blocks_of known.slots.now

-- the item at that place of the block at that position uses the name
pub record IsUseAt (blocks : List Reading) (at index : ℕ) (name : List ℕ) : Type 0 where
  pub block : Reading
  pub stands : slice_get blocks at ≡ Some block
  pub item : ReadItem
  pub places : slice_get block.items index ≡ Some item
  pub uses : used_name item.said ≡ Some name

-- the item at that place of the block at that position says this
pub record IsItemAt (blocks : List Reading) (at index : ℕ) (says : Said) : Type 0 where
  pub block : Reading
  pub stands : slice_get blocks at ≡ Some block
  pub item : ReadItem
  pub places : slice_get block.items index ≡ Some item
  pub is : item.said ≡ says

-- whether the use of the name, if it is one, is at fault
abbrev pub is_at_fault : List Reading → ℕ → Option (List ℕ) → Bool
is_at_fault blocks at None = false
is_at_fault blocks at (Some name) = is_some (use_fault blocks at name)

-- no use of the block at that position is at fault
abbrev pub AreUsesSound : List Reading → ℕ → Type 0
AreUsesSound blocks at = (block : Reading) (name : List ℕ) → slice_get blocks at ≡ Some block → Uses block.items name → use_fault blocks at name ≡ None

-- an edge leads to the place among the ids of the owner of the name, and nowhere if there is none
abbrev pub IsEdgeTo : Slots → List ℕ → List ℕ → Option ℕ → Type 0
IsEdgeTo slots ids name edge =
    (place : ℕ) → (edge ≡ Some place) ↔ ((id : ℕ) × IsOwnerId slots name id × (slice_get ids place ≡ Some id))

-- the name has an owner that does not lead to the block at that position, and the state is that of
-- the owner
pub record IsOwnerState (blocks : List Reading) (at : ℕ) (name : List ℕ) (state : State) : Type 0 where
  pub block : Reading
  pub is : owner_block blocks name ≡ Some block
  pub off : leads_to blocks name at ≡ false
  pub table : HasTable contents blocks block (table_of state)

-- the table is that of the owner of the name
abbrev pub IsUsedTable : List Reading → List ℕ → Contents → Type 0
IsUsedTable blocks name table =
    (block : Reading) × (owner_block blocks name ≡ Some block)
    × ((mentions : List Mention) × (expansion blocks block ≡ Some mentions) × IsTableOfMentions table mentions)
