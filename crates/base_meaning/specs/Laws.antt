-- Laws of the definitions, by which the computing ones say what the relations say.
use Rattle.std.specs.Prelude.{[], ◌∷◌, ◌++◌, map, ℕ, ◌≡◌, ◌≤◌, ◌<◌, ◌↔◌, List, Option, Some, None, IsSome, IsTrue, slice_get}
use Rattle.std.specs.Str.{bytes_eq}
use Rattle.ti_source.specs.declared.code.Code.{Code}
use Rattle.ti_source.specs.declared.code.Code.TheVariants.{MissingUse, Circular, Unresolved}
use Rattle.ti_source.specs.Reading.{Reading, ReadItem, ReadFault}
use Rattle.base_meaning.specs.Owner.{is_among, is_owner, owner, owner_block}
use Rattle.ti_layout.specs.Values.{Mention}
use Rattle.base_meaning.specs.Expansion.{expand, expansion, resolves}
use Rattle.base_meaning.specs.Reaching.{any_use, used_name, Uses, LeadsTo, leads_to}
use Rattle.base_meaning.specs.Faults.{SourceFault, local_fault, use_fault, fault_of_item, faults_before, faults_from, item_faults}

-- the name is the block's at that position, and no block before has it
pub record IsFirstWith (blocks : List Reading) (name : List ℕ) (at : ℕ) : Type 0 where
  pub block : Reading
  pub stands : slice_get blocks at ≡ Some block
  pub has : IsTrue (is_among name block.names)
  pub first : (before : ℕ) (other : Reading) → before < at → slice_get blocks before ≡ Some other → ¬ (IsTrue (is_among name other.names))

-- a name belongs to the first block that has it, and to none if none has it
pub record OwnersAreFirst : Type 0 where
  pub some : (blocks : List Reading) (name : List ℕ) (at : ℕ) → owner blocks name ≡ Some at → IsFirstWith blocks name at
  pub none : (blocks : List Reading) (name : List ℕ) → owner blocks name ≡ None → (at : ℕ) (block : Reading) → slice_get blocks at ≡ Some block
      → ¬ (IsTrue (is_among name block.names))

-- a block resolves if some depth suffices for its expansion; `env` gives the block that owns a name
abbrev pub Resolves : (List ℕ → Option Reading) → Reading → Type 0
Resolves env block = (depth : ℕ) × IsSome (expand env depth block)

-- an expansion is the same at each greater depth
abbrev pub ExpansionsStay : Type 0
ExpansionsStay =
    (env : List ℕ → Option Reading) (depth deeper : ℕ) (block : Reading) (mentions : List Mention)
    → depth ≤ deeper → expand env depth block ≡ Some mentions → expand env deeper block ≡ Some mentions

-- a block of the list has the expansion that some depth gives it, and resolves exactly if some
-- depth gives it one
pub record ExpansionsAreFound : Type 0 where
  pub found : (blocks : List Reading) (at depth : ℕ) (block : Reading) (mentions : List Mention) → slice_get blocks at ≡ Some block
      → expand (owner_block blocks) depth block ≡ Some mentions → expansion blocks block ≡ Some mentions
  pub resolves : (blocks : List Reading) (at : ℕ) (block : Reading) → slice_get blocks at ≡ Some block
      → IsTrue (resolves blocks block) ↔ Resolves (owner_block blocks) block

-- the test of what items use finds a name exactly if one of them uses it
abbrev pub UsesAreFound : Type 0
UsesAreFound = (name : List ℕ) (items : List ReadItem) → IsTrue (any_use (bytes_eq name) items) ↔ Uses items name

-- the test for a name's owner finds the position of its owner, and no other
abbrev pub OwnersAreTold : Type 0
OwnersAreTold = (blocks : List Reading) (name : List ℕ) (at : ℕ) → IsTrue (is_owner blocks name at) ↔ (owner blocks name ≡ Some at)

-- the search for a way finds one exactly if there is one
abbrev pub WaysAreFound : Type 0
WaysAreFound = (blocks : List Reading) (from : List ℕ) (at : ℕ) → IsTrue (leads_to blocks from at) ↔ LeadsTo blocks from at

-- what is wrong with the use of a name by the block at a position, the first that holds: nobody
-- owns the name; the owner is that block or reaches a name that it owns; the owner does not
-- resolve; nothing
pub data IsUseFault (blocks : List Reading) (at : ℕ) (name : List ℕ) : Option Code → Type 0 where
  nobody_owns : owner blocks name ≡ None → IsUseFault blocks at name (Some MissingUse)
  leads_back : LeadsTo blocks name at → IsUseFault blocks at name (Some Circular)
  owner_unresolved : (block : Reading) → owner_block blocks name ≡ Some block → (LeadsTo blocks name at → ⊥) → (Resolves (owner_block blocks) block → ⊥)
      → IsUseFault blocks at name (Some Unresolved)
  owner_resolved : (block : Reading) → owner_block blocks name ≡ Some block → (LeadsTo blocks name at → ⊥) → Resolves (owner_block blocks) block
      → IsUseFault blocks at name None

-- each use has the fault that is computed
abbrev pub UseFaultsAreFound : Type 0
UseFaultsAreFound = (blocks : List Reading) (at : ℕ) (name : List ℕ) → IsUseFault blocks at name (use_fault blocks at name)

-- a fault of an item with the ordinal of the item
abbrev pub fault_with_ordinal : ℕ → ReadFault → ℕ × SourceFault
fault_with_ordinal at fault = (fault.ordinal, local_fault at fault)

-- the faults of the items, each with the ordinal of its item
abbrev pub numbered_faults : List Reading → ℕ → List ReadFault → List ReadItem → List (ℕ × SourceFault)
numbered_faults blocks at faults [] = map (fault_with_ordinal at) faults
numbered_faults blocks at faults (item ∷ items) =
    map (fault_with_ordinal at) (faults_before item.ordinal faults)
    ++ (map (λ fault. (item.ordinal, fault)) (fault_of_item blocks at item.line (used_name item.said))
    ++ numbered_faults blocks at (faults_from item.ordinal faults) items)

-- numbers from a least one on, none below the one before it
abbrev pub Climbs : ℕ → List ℕ → Type 0
Climbs least [] = Unit {0}
Climbs least (n ∷ ns) = (least ≤ n) × Climbs n ns

-- the faults of the items are in the order of their items, if reading gives items and faults in
-- order
pub record ItemFaultsAreInOrder : Type 0 where
  pub same : (blocks : List Reading) (at : ℕ) (faults : List ReadFault) (items : List ReadItem)
      → map (λ (f : ℕ × SourceFault). f.1) (numbered_faults blocks at faults items) ≡ item_faults blocks at faults items
  pub climbs : (blocks : List Reading) (at : ℕ) (faults : List ReadFault) (items : List ReadItem)
      → Climbs 0 (map (λ (f : ReadFault). f.ordinal) faults) → Climbs 0 (map (λ (i : ReadItem). i.ordinal) items)
      → Climbs 0 (map (λ (f : ℕ × SourceFault). f.0) (numbered_faults blocks at faults items))
