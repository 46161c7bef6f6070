-- What an edit leaves of the blocks that do not depend on it (own).
use Rattle.std.specs.Prelude.{ℕ, ◌≡◌, ◌↔◌, List, ◌++◌, filter, map, Some, option_map, slice_get, true, false}
use Rattle.ti_source.specs.Reading.{Reading}
use Rattle.base_meaning.specs.Owner.{owner, owner_block}
use Rattle.base_meaning.specs.Expansion.{expand, expansion}
use Rattle.base_meaning.specs.Reaching.{Uses}
use Rattle.base_meaning.specs.Compiled.{entry, state_of}
use Rattle.base_meaning.specs.Faults.{SourceFault, entry_faults, is_kept, item_faults, local_faults}
use Rattle.base_meaning.specs.Exchange.{Exchange, IsExchange, old_list, new_list, shifted_position}
use Rattle.base_meaning.specs.Dependents.{touched_names, ReachesOne}

-- the fault of the block when it is at another position
abbrev pub moved_to : ℕ → SourceFault → SourceFault
moved_to at fault = record { block = at; line = fault.line; code = fault.code; detail = fault.detail }

-- the faults of a block at a position, except those about names that earlier blocks own
abbrev pub lasting_faults : List Reading → ℕ → Reading → List SourceFault
lasting_faults blocks at block =
    local_faults true at block.faults
    ++ (item_faults blocks at (filter (is_kept false) block.faults) block.items
    ++ entry_faults at block.names (state_of blocks block))

-- what remains of a block, at this position of the list without the blocks taken out and put in:
-- its expansion at every depth, its entry, its faults except for duplicate names, and the owner of
-- each name that it uses, at its new position
pub record IsKeptBlock (exchange : Exchange) (at : ℕ) (block : Reading) : Type 0 where
  pub at_depth : (depth : ℕ) → expand (owner_block (new_list exchange)) depth block ≡ expand (owner_block (old_list exchange)) depth block
  pub mentions : expansion (new_list exchange) block ≡ expansion (old_list exchange) block
  pub entry : entry (new_list exchange) block ≡ entry (old_list exchange) block
  pub state : state_of (new_list exchange) block ≡ state_of (old_list exchange) block
  pub faults : lasting_faults (new_list exchange) (shifted_position exchange.put at) block
      ≡ map (moved_to (shifted_position exchange.put at)) (lasting_faults (old_list exchange) (shifted_position exchange.out at) block)
  pub old_owners : (name : List ℕ) → Uses block.items name
      → owner (old_list exchange) name ≡ option_map (shifted_position exchange.out) (owner exchange.rest name)
  pub new_owners : (name : List ℕ) → Uses block.items name
      → owner (new_list exchange) name ≡ option_map (shifted_position exchange.put) (owner exchange.rest name)

-- a block other than the one taken out or put in that reaches no touched name keeps what this file
-- lists
abbrev pub UntouchedBlocksAreKept : Type 0
UntouchedBlocksAreKept =
    (exchange : Exchange) (at : ℕ) (block : Reading) → IsExchange exchange
    → slice_get exchange.rest at ≡ Some block → ¬ (ReachesOne (old_list exchange) (touched_names exchange) block)
    → IsKeptBlock exchange at block

-- a block reaches a touched name in the old list exactly if it does in the new one
abbrev pub TouchedInBothLists : Type 0
TouchedInBothLists =
    (exchange : Exchange) (block : Reading) → IsExchange exchange
    → ReachesOne (old_list exchange) (touched_names exchange) block ↔ ReachesOne (new_list exchange) (touched_names exchange) block
