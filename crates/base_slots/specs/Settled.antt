-- What was found out about a block, and when it is right (own).
use Rattle.std.specs.Prelude.{ℕ, ◌≡◌, List, map, Option, Some, None, option_map}
use Rattle.std.specs.Rc.{rc_slice_items}
use Rattle.ti_source.specs.Reading.{Reading}
use Rattle.ti_layout.specs.declared.values.Table.{Table}
use Rattle.ti_layout.specs.Values.{contents}
use Rattle.ti_compiled.specs.Image.{bytes_of}
use Rattle.base_meaning.specs.Compiled.{EntryState, unresolved, oversized, written, state_of}
use Rattle.base_meaning.specs.Faults.{SourceFault}
use Rattle.base_meaning.specs.KeptBlocks.{lasting_faults}
use Rattle.base_meaning.specs.ValueTables.{HasTable}
use Rattle.base_slots.specs.declared.entries.BlockEntry.{BlockEntry}
use Rattle.base_slots.specs.declared.slots.KeptFault.{KeptFault}
use Rattle.base_slots.specs.declared.slots.Settled.{Settled}
use Rattle.base_slots.specs.declared.slots.State.{State}
use Rattle.base_slots.specs.declared.slots.State.TheVariants as s

-- what becomes of a block, as plain data
abbrev pub state_seen : State → EntryState
state_seen s.Unresolved = unresolved
state_seen (s.TooLarge table) = oversized
state_seen (s.Compiled entry) = written (bytes_of entry.image)

-- the table of its values, if it resolves
abbrev pub table_of : State → Option Table
table_of s.Unresolved = None
table_of (s.TooLarge table) = Some table
table_of (s.Compiled entry) = Some entry.table

-- the entry, if the block has one
abbrev pub slot_entry : State → Option BlockEntry
slot_entry s.Unresolved = None
slot_entry (s.TooLarge table) = None
slot_entry (s.Compiled entry) = Some entry

-- a stored fault of the block at that position
abbrev pub fault_at : ℕ → KeptFault → SourceFault
fault_at at fault = record { block = at; line = fault.line; code = fault.code; detail = option_map rc_slice_items fault.detail }

-- what was found out is right for the block at that position of the list: the values, the entry and
-- the faults
pub record IsSettled (blocks : List Reading) (at : ℕ) (block : Reading) (settled : Settled) : Type 0 where
  pub table : HasTable contents blocks block (table_of settled.state)
  pub state : state_seen settled.state ≡ state_of blocks block
  pub faults : map (fault_at at) settled.faults.items ≡ lasting_faults blocks at block
