-- What becomes of the blocks of a source whose user-defined capabilities are kept (tic(1) at `-x`,
-- term(5)).
use Rattle.std.specs.Prelude.{◌≡◌, ℕ, List, length, Option, Some, None, nat_lt, if◌then◌else◌}
use Rattle.std.specs.List.{AllZip}
use Rattle.ti_source.specs.declared.parsing.Rule.{Rule}
use Rattle.ti_source.specs.declared.parsing.Rule.TheVariants.{Leftmost}
use Rattle.ti_source.specs.Reading.{Reading}
use Rattle.ti_source.specs.Parsing.{reading_of_text}
use Rattle.ti_layout.specs.Values.{Mention}
use Rattle.base_meaning.specs.Readings.{reading_by, readings_by}
use Rattle.base_meaning.specs.Expansion.{values, expansion}
use Rattle.base_meaning.specs.Compiled.{EntryState, unresolved, oversized, written}
use Rattle.user_extension.specs.UserDefined.{Row}
use Rattle.user_extension.specs.Extension.{entry, entry_limit}
use Rattle.user_values.specs.Expansion.{UserMention, first_said, expansion_by}
use Rattle.user_compiling.specs.Rows.{AreRowsOf}
use Rattle.user_compiling.specs.declared.compiled.Compiled.{Compiled}
use Rattle.user_compiling.specs.declared.compiled.Compiled.TheVariants as compiled

-- the entry of a block that says this of the tables and has these user-defined capabilities
abbrev pub entry_with : Reading → List Mention → List Row → List ℕ
entry_with block mentions rows = entry block.field (values mentions) rows

-- what becomes of such a block: its entry with its extension is over its limit, or is written
abbrev pub state_with : Reading → List Mention → List Row → EntryState
state_with block mentions rows =
    if nat_lt (entry_limit (values mentions) rows) (length (entry_with block mentions rows)) then oversized else written (entry_with block mentions rows)

-- how the state of a block is found that resolves, of a list that is read by a rule: by what it says
-- of the tables and of user-defined names
pub record HasStateBy (rule : Rule) (texts : List (List ℕ)) (text : List ℕ) (state : EntryState) : Type 0 where
  pub mentions : List Mention
  pub user_mentions : List UserMention
  pub rows : List Row
  pub expands : expansion (readings_by rule texts) (reading_by rule text) ≡ Some mentions
  pub user_expands : expansion_by rule texts text ≡ Some user_mentions
  pub are_rows : AreRowsOf (first_said user_mentions) rows
  pub is : state ≡ state_with (reading_of_text text) mentions rows

-- what becomes of a block of such a list
pub data IsStateBy (rule : Rule) (texts : List (List ℕ)) (text : List ℕ) : EntryState → Type 0 where
  does_not_resolve : expansion (readings_by rule texts) (reading_by rule text) ≡ None → IsStateBy rule texts text unresolved
  does_resolve : {state : EntryState} → HasStateBy rule texts text state → IsStateBy rule texts text state

-- what becomes of each block of it
abbrev pub AreStatesBy : Rule → List (List ℕ) → List EntryState → Type 0
AreStatesBy rule texts states = AllZip (IsStateBy rule texts) texts states

-- the same of a list that is read by the rule `Leftmost`
abbrev pub IsStateOf : List (List ℕ) → List ℕ → EntryState → Type 0
IsStateOf texts = IsStateBy Leftmost texts

-- what becomes of each block of it
abbrev pub AreStates : List (List ℕ) → List EntryState → Type 0
AreStates texts states = AreStatesBy Leftmost texts states

-- what is in memory of it, as plain data
abbrev pub state_seen : Compiled → EntryState
state_seen compiled.Unresolved = unresolved
state_seen compiled.TooLarge = oversized
state_seen (compiled.Written bytes) = written bytes.items

-- the entry, if there is one
abbrev pub entry_in : EntryState → Option (List ℕ)
entry_in unresolved = None
entry_in oversized = None
entry_in (written bytes) = Some bytes
