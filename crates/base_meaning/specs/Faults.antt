-- The faults of a source (own): for each block those of its header, of its names, of its items in
-- order and of its entry.
use Rattle.std.specs.Prelude.{option_map, ℕ, suc, List, [], ◌∷◌, ◌++◌, map, filter, Option, Some, None, slice_get, Bool, true, false, not, nat_lt}
use Rattle.std.specs.Prelude.{if◌then◌else◌}
use Rattle.std.specs.Option.{option_map_or}
use Rattle.std.specs.Rc.{rc_slice_items}
use Rattle.base_meaning.specs.declared.faults.Fault.{Fault}
use Rattle.ti_source.specs.declared.code.Code.{Code}
use Rattle.ti_source.specs.declared.code.Code.TheVariants.{MissingUse, Circular, Unresolved, TooLarge, DuplicateName}
use Rattle.ti_source.specs.Code.{is_of_header}
use Rattle.ti_source.specs.Reading.{Reading, ReadItem, ReadFault}
use Rattle.base_meaning.specs.Owner.{owner, owner_block, is_among}
use Rattle.base_meaning.specs.Expansion.{resolves}
use Rattle.base_meaning.specs.Reaching.{used_name, leads_to}
use Rattle.base_meaning.specs.Compiled.{EntryState, unresolved, oversized, written, state_of}

-- a fault of a source: the position of its block, the line in that block, counted from 1, the code
-- and its detail
pub record SourceFault : Type 0 where
  pub block : ℕ
  pub line : ℕ
  pub code : Code
  pub detail : Option (List ℕ)

-- a fault that holds its detail in memory, as plain data
abbrev pub fault_seen : Fault → SourceFault
fault_seen fault = record { block = fault.block; line = fault.line; code = fault.code; detail = option_map rc_slice_items fault.detail }

-- what is wrong with a use whose name belongs to this block, if it belongs to one: nobody owns the
-- name; it leads back to its user; or the owner does not resolve
abbrev pub fault_between : Option Reading → Bool → (Reading → Bool) → Option Code
fault_between None _ _ = Some MissingUse
fault_between (Some block) true _ = Some Circular
fault_between (Some block) false does_resolve = if does_resolve block then None else Some Unresolved

-- what is wrong with the use of a name by the block at that position, if something is
abbrev pub use_fault : List Reading → ℕ → List ℕ → Option Code
use_fault blocks at name = fault_between (owner_block blocks name) (leads_to blocks name at) (resolves blocks)

-- a fault that reading the block gave
abbrev pub local_fault : ℕ → ReadFault → SourceFault
local_fault at fault = record { block = at; line = fault.line; code = fault.code; detail = fault.detail }

-- whether a fault is one of the header, or whether it is not
abbrev pub is_kept : Bool → ReadFault → Bool
is_kept true fault = is_of_header fault.code
is_kept false fault = not (is_of_header fault.code)

-- the faults of the header, or the others
abbrev pub local_faults : Bool → ℕ → List ReadFault → List SourceFault
local_faults of_header at faults = map (local_fault at) (filter (is_kept of_header) faults)

-- the names without those that are also before them
abbrev pub distinct_after : List (List ℕ) → List (List ℕ) → List (List ℕ)
distinct_after before [] = []
distinct_after before (name ∷ names) =
    (if is_among name before then [] else name ∷ []) ++ distinct_after (before ++ name ∷ []) names

-- each of the names once, in the order of their first places
abbrev pub distinct : List (List ℕ) → List (List ℕ)
distinct names = distinct_after [] names

-- whether the name belongs to a block before that position
abbrev pub is_owned_before : List Reading → ℕ → List ℕ → Bool
is_owned_before blocks at name = option_map_or (λ place. nat_lt place at) (owner blocks name) false

-- the fault of a lookup name that an earlier block owns
abbrev pub name_fault : ℕ → List ℕ → SourceFault
name_fault at name = record { block = at; line = 1; code = DuplicateName; detail = Some name }

-- a fault for each lookup name that an earlier block owns
abbrev pub name_faults : List Reading → ℕ → List (List ℕ) → List SourceFault
name_faults blocks at names = map (name_fault at) (filter (is_owned_before blocks at) (distinct names))

-- the fault of a use of this name by an item of that line, if it has one
abbrev pub fault_of_use : ℕ → ℕ → List ℕ → Option Code → List SourceFault
fault_of_use at line name None = []
fault_of_use at line name (Some code) = record { block = at; line = line; code = code; detail = Some name } ∷ []

-- the fault of an item, if it is a use
abbrev pub fault_of_item : List Reading → ℕ → ℕ → Option (List ℕ) → List SourceFault
fault_of_item blocks at line None = []
fault_of_item blocks at line (Some name) = fault_of_use at line name (use_fault blocks at name)

-- the faults at the front that are of items before that ordinal
abbrev pub faults_before : ℕ → List ReadFault → List ReadFault
faults_before ordinal [] = []
faults_before ordinal (fault ∷ faults) = if nat_lt fault.ordinal ordinal then fault ∷ faults_before ordinal faults else []

-- the faults that follow those: from the first of an item at that ordinal or later
abbrev pub faults_from : ℕ → List ReadFault → List ReadFault
faults_from ordinal [] = []
faults_from ordinal (fault ∷ faults) = if nat_lt fault.ordinal ordinal then faults_from ordinal faults else fault ∷ faults

-- the faults of the items, in item order: those that reading gave, each before the uses of later
-- items, and those of uses
abbrev pub item_faults : List Reading → ℕ → List ReadFault → List ReadItem → List SourceFault
item_faults blocks at faults [] = map (local_fault at) faults
item_faults blocks at faults (item ∷ items) =
    map (local_fault at) (faults_before item.ordinal faults)
    ++ (fault_of_item blocks at item.line (used_name item.said) ++ item_faults blocks at (faults_from item.ordinal faults) items)

-- the fault of a block that resolves and whose entry is over the limit, with its first lookup name
abbrev pub entry_faults : ℕ → List (List ℕ) → EntryState → List SourceFault
entry_faults at names unresolved = []
entry_faults at names oversized = record { block = at; line = 1; code = TooLarge; detail = slice_get names 0 } ∷ []
entry_faults at names (written bytes) = []

-- the faults of a block
abbrev pub block_faults : List Reading → ℕ → Reading → List SourceFault
block_faults blocks at block =
    local_faults true at block.faults
    ++ (name_faults blocks at block.names
    ++ (item_faults blocks at (filter (is_kept false) block.faults) block.items
    ++ entry_faults at block.names (state_of blocks block)))

-- the faults of the blocks from that position on
abbrev pub faults_after : List Reading → ℕ → List Reading → List SourceFault
faults_after blocks at [] = []
faults_after blocks at (block ∷ rest) = block_faults blocks at block ++ faults_after blocks (suc at) rest

-- the faults of all blocks, in list order
abbrev pub faults : List Reading → List SourceFault
faults blocks = faults_after blocks 0 blocks
