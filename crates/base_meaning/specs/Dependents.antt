-- What an edit touches (own): the names of the blocks taken out and put in, the blocks that depend
-- on them, which are rebuilt, and the work of that.
use Rattle.std.specs.Prelude.{ℕ, ◌≡◌, ◌⊎◌, ◌↔◌, List, [], ◌++◌, length, Option, Some, None, IsTrue, slice_get, Contains, sum_by, if◌then◌else◌}
use Rattle.ti_source.specs.declared.parsing.Rule.{Rule}
use Rattle.ti_source.specs.declared.parsing.Rule.TheVariants.{Leftmost}
use Rattle.ti_source.specs.Reading.{Reading}
use Rattle.ti_source.specs.Sound.{IsRising}
use Rattle.base_meaning.specs.Readings.{readings_by}
use Rattle.base_meaning.specs.Owner.{is_among, owner, owner_block}
use Rattle.base_meaning.specs.Expansion.{resolves}
use Rattle.base_meaning.specs.Reaching.{Uses, Reaches}
use Rattle.base_meaning.specs.Edits.{Change, list_after}
use Rattle.base_meaning.specs.Exchange.{PlacedBlock, Exchange, IsExchange, new_list, exchange_by}
use Rattle.base_meaning.specs.UseLaws.{UsesBlock}

-- the lookup names of a block, if there is one
abbrev pub lookup_names_of : Option PlacedBlock → List (List ℕ)
lookup_names_of None = []
lookup_names_of (Some placed) = placed.block.names

-- the names that an edit touches: those of the block taken out and of the block put in
abbrev pub touched_names : Exchange → List (List ℕ)
touched_names exchange = lookup_names_of exchange.out ++ lookup_names_of exchange.put

-- a block reaches one of these names in a list
abbrev pub ReachesOne : List Reading → List (List ℕ) → Reading → Type 0
ReachesOne blocks names block = (name : List ℕ) × IsTrue (is_among name names) × Reaches (owner_block blocks) block.items name

-- the block was put in at that position
abbrev pub IsPutAt : Option PlacedBlock → ℕ → Type 0
IsPutAt None at = ⊥
IsPutAt (Some placed) at = placed.at ≡ at

-- the block at that position of the new list depends on the edit: it was put in, or reaches a
-- touched name
abbrev pub IsDependent : Exchange → ℕ → Type 0
IsDependent exchange at =
    (block : Reading) × (slice_get (new_list exchange) at ≡ Some block)
    × (IsPutAt exchange.put at ⊎ ReachesOne (new_list exchange) (touched_names exchange) block)

-- these are the positions of the blocks that depend on the edit, in ascending order
pub record AreDependents (exchange : Exchange) (places : List ℕ) : Type 0 where
  pub rising : IsRising places
  pub dependents : (at : ℕ) → Contains places at ↔ IsDependent exchange at

-- the work of a block, if there is one: a step for each of its accepted items if it resolves
abbrev pub work_of : List Reading → Option Reading → ℕ
work_of blocks None = 0
work_of blocks (Some block) = if resolves blocks block then length block.items else 0

-- the work of the blocks at these positions
abbrev pub work : List Reading → List ℕ → ℕ
work blocks places = sum_by (λ at. work_of blocks (slice_get blocks at)) places

-- the positions of the dependents are determined
abbrev pub DependentsAreDetermined : Type 0
DependentsAreDetermined = (exchange : Exchange) (one other : List ℕ) → AreDependents exchange one → AreDependents exchange other → one ≡ other

-- a block that uses a name which a dependent owns is a dependent
abbrev pub UsersOfDependentsDepend : Type 0
UsersOfDependentsDepend =
    (exchange : Exchange) (at user : ℕ) (block : Reading) (name : List ℕ) → IsExchange exchange
    → IsDependent exchange at → owner (new_list exchange) name ≡ Some at
    → slice_get (new_list exchange) user ≡ Some block → Uses block.items name → IsDependent exchange user

-- ---- how dependents are found

-- among these positions are that of the block put in, those of the users of touched names, and with
-- each block those of its users
pub record AreClosed (exchange : Exchange) (found : List ℕ) : Type 0 where
  pub put : (at : ℕ) → IsPutAt exchange.put at → Contains found at
  pub touching : (user : ℕ) (block : Reading) (name : List ℕ) → slice_get (new_list exchange) user ≡ Some block → Uses block.items name
      → IsTrue (is_among name (touched_names exchange)) → Contains found user
  pub using : (user at : ℕ) → UsesBlock (new_list exchange) user at → Contains found at → Contains found user

-- if these are among the positions, all dependents are
abbrev pub DependentsAreFound : Type 0
DependentsAreFound = (exchange : Exchange) (found : List ℕ) → AreClosed exchange found → (at : ℕ) → IsDependent exchange at → Contains found at

-- ---- what an accepted edit rebuilds

-- an edit of a source that is read by a rule, given by the texts of its blocks, rebuilds the blocks
-- at these positions of the new list, and this is its work
pub record RebuildsBy (rule : Rule) (texts : List (List ℕ)) (change : Change) (places : List ℕ) (steps : ℕ) : Type 0 where
  pub dependents : AreDependents (exchange_by rule texts change) places
  pub work : steps ≡ work (readings_by rule (list_after texts change)) places

-- the same of a source that is read by the rule `Leftmost`
abbrev pub Rebuilds : List (List ℕ) → Change → List ℕ → ℕ → Type 0
Rebuilds texts change places steps = RebuildsBy Leftmost texts change places steps

-- an edit has one answer, by whatever rule the source is read
abbrev pub RebuildsAreDetermined : Type 0
RebuildsAreDetermined =
    (rule : Rule) (texts : List (List ℕ)) (change : Change) (one other : List ℕ) (steps others : ℕ)
    → RebuildsBy rule texts change one steps → RebuildsBy rule texts change other others → (one ≡ other) × (steps ≡ others)
