-- Laws on what blocks reach, and on the faults of their uses.
use Rattle.std.specs.Prelude.{ℕ, ◌≡◌, ◌<◌, ◌⊎◌, ◌↔◌, List, [], ◌∷◌, length, Option, Some, IsSome, IsFalse, IsTrue, slice_get}
use Rattle.ti_source.specs.Reading.{Reading}
use Rattle.base_meaning.specs.Owner.{owner, owner_block}
use Rattle.base_meaning.specs.Expansion.{is_broken, resolves}
use Rattle.base_meaning.specs.Reaching.{Uses, Reaches, LeadsTo}
use Rattle.base_meaning.specs.Faults.{use_fault}

-- ---- what leads to a block

-- the owner of the name reaches a name that the block at `at` owns
abbrev pub OwnerReaches : List Reading → List ℕ → ℕ → Type 0
OwnerReaches blocks name at =
    (block : Reading) × (owner_block blocks name ≡ Some block)
    × ((to : List ℕ) × Reaches (owner_block blocks) block.items to × (owner blocks to ≡ Some at))

-- a name leads to a block exactly if its owner is that block, or reaches a name that it owns
abbrev pub LeadingIsReaching : Type 0
LeadingIsReaching = (blocks : List Reading) (name : List ℕ) (at : ℕ) → LeadsTo blocks name at ↔ ((owner blocks name ≡ Some at) ⊎ OwnerReaches blocks name at)

-- the block at the position `user` uses a name that the block at `at` owns
abbrev pub UsesBlock : List Reading → ℕ → ℕ → Type 0
UsesBlock blocks user at =
    (block : Reading) × (slice_get blocks user ≡ Some block)
    × ((name : List ℕ) × Uses block.items name × (owner blocks name ≡ Some at))

-- from one number a walk along edges goes over the numbers `way` to another
abbrev pub IsEdgeWalk : (ℕ → ℕ → Type 0) → ℕ → List ℕ → ℕ → Type 0
IsEdgeWalk Edge from [] to = from ≡ to
IsEdgeWalk Edge from (next ∷ way) to = Edge from next × IsEdgeWalk Edge next way to

-- some walk goes from one number to the other
abbrev pub EdgesLead : (ℕ → ℕ → Type 0) → ℕ → ℕ → Type 0
EdgesLead Edge from to = (way : List ℕ) × IsEdgeWalk Edge from way to

-- a name leads to a block exactly if the uses of blocks lead to it from the name's owner
abbrev pub LeadingIsWalking : Type 0
LeadingIsWalking = (blocks : List Reading) (name : List ℕ) (at : ℕ)
    → LeadsTo blocks name at ↔ ((from : ℕ) × (owner blocks name ≡ Some from) × EdgesLead (UsesBlock blocks) from at)

-- ---- circular uses among blocks that were found

-- with each block that was found, by its position, the blocks that use it were found
abbrev pub AreFound : List Reading → List ℕ → Type 0
AreFound blocks found = (i at user : ℕ) → slice_get found i ≡ Some at → UsesBlock blocks user at → (j : ℕ) × (slice_get found j ≡ Some user)

-- an edge leads from the place of a block among those found to that of each block found that it
-- uses, and to no other
abbrev pub IsGraphOf : List Reading → List ℕ → (ℕ → ℕ → Type 0) → Type 0
IsGraphOf blocks found Edge =
    (i j : ℕ) → Edge i j ↔ ((at : ℕ) × (used : ℕ) × (slice_get found i ≡ Some at) × (slice_get found j ≡ Some used) × UsesBlock blocks at used)

-- places below `count` are in the same component exactly if each leads to the other
abbrev pub MarksComponents : ℕ → (ℕ → ℕ → Type 0) → (ℕ → ℕ → Type 0) → Type 0
MarksComponents count Edge Same = (i j : ℕ) → i < count → j < count → Same i j ↔ (EdgesLead Edge i j × EdgesLead Edge j i)

-- an edge of a graph that has a row for each node, with the node that each of its edges leads to,
-- if it leads to one
abbrev pub HasOptionalEdge : List (List (Option ℕ)) → ℕ → ℕ → Type 0
HasOptionalEdge graph from to =
    (row : List (Option ℕ)) × (slice_get graph from ≡ Some row)
    × ((place : ℕ) × (slice_get row place ≡ Some (Some to)))

-- two places that have the same number
abbrev pub HaveOneNumber : List ℕ → ℕ → ℕ → Type 0
HaveOneNumber numbers i j = (number : ℕ) × (slice_get numbers i ≡ Some number) × (slice_get numbers j ≡ Some number)

-- a use by a block that was found leads back to it exactly if the owner was found and both are in
-- the same component
abbrev pub CircularUsesShareAComponent : Type 0
CircularUsesShareAComponent =
    (blocks : List Reading) (found : List ℕ) (graph : List (List (Option ℕ))) (components : List ℕ)
    → AreFound blocks found → IsGraphOf blocks found (HasOptionalEdge graph)
    → MarksComponents (length found) (HasOptionalEdge graph) (HaveOneNumber components)
    → (i at : ℕ) (block : Reading) (name : List ℕ) → slice_get found i ≡ Some at → slice_get blocks at ≡ Some block → Uses block.items name
    → LeadsTo blocks name at ↔ ((j : ℕ) × (used : ℕ) × (owner blocks name ≡ Some used) × (slice_get found j ≡ Some used) × HaveOneNumber components i j)

-- ---- blocks that do not resolve

-- a use by the block has a fault
abbrev pub HasUseAtFault : List Reading → ℕ → Reading → Type 0
HasUseAtFault blocks at block = (name : List ℕ) × Uses block.items name × IsSome (use_fault blocks at name)

-- a block does not resolve exactly if it is broken or one of its uses has a fault
abbrev pub UnresolvedBlocksHaveACause : Type 0
UnresolvedBlocksHaveACause =
    (blocks : List Reading) (at : ℕ) (block : Reading) → slice_get blocks at ≡ Some block
    → IsFalse (resolves blocks block) ↔ (IsTrue (is_broken block) ⊎ HasUseAtFault blocks at block)
