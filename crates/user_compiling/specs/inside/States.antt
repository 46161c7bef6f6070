-- The state of a block by the entry that the profile gives it.
use Rattle.std.specs.Prelude.{ℕ, List, Option, Some, None}
use Rattle.base_meaning.specs.Compiled.{EntryState, oversized, written}

-- the state of a block that resolves, of which this is the entry
abbrev pub state_of_entry : Option (List ℕ) → EntryState
state_of_entry None = oversized
state_of_entry (Some bytes) = written bytes
