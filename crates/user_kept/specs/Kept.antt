-- What was found out about a block stays right with each edit on which the block does not depend (own).
use Rattle.std.specs.Prelude.{ℕ, ◌≡◌, List, Option, Some, slice_get}
use Rattle.ti_source.specs.declared.parsing.Rule.{Rule}
use Rattle.base_meaning.specs.Compiled.{EntryState}
use Rattle.base_meaning.specs.Edits.{Change, IsInPlace, list_after}
use Rattle.base_meaning.specs.Exchange.{exchange_of}
use Rattle.base_meaning.specs.Dependents.{IsDependent}
use Rattle.user_values.specs.Tables.{TableSeen, IsTableAt}
use Rattle.user_compiling.specs.Entries.{AreStates, AreStatesBy, IsStateOf}
use Rattle.user_kept.specs.Places.{position_before}

-- the table that such a block had is its table after the edit
abbrev pub KeptTablesStayRight : Type 0
KeptTablesStayRight =
    (texts : List (List ℕ)) (change : Change) (at : ℕ) (table : Option TableSeen)
    → IsInPlace texts change → ¬ (IsDependent (exchange_of texts change) at)
    → IsTableAt texts (position_before change at) table
    → IsTableAt (list_after texts change) at table

-- what became of such a block becomes of it after the edit
abbrev pub KeptStatesStayRight : Type 0
KeptStatesStayRight =
    (texts : List (List ℕ)) (change : Change) (states : List EntryState) (at : ℕ) (text : List ℕ) (state : EntryState)
    → IsInPlace texts change → AreStates texts states → slice_get (list_after texts change) at ≡ Some text
    → ¬ (IsDependent (exchange_of texts change) at) → slice_get states (position_before change at) ≡ Some state
    → IsStateOf (list_after texts change) text state

-- by a rule, of a source only one thing becomes
abbrev pub StatesAreDetermined : Type 0
StatesAreDetermined =
    (rule : Rule) (texts : List (List ℕ)) (states others : List EntryState) → AreStatesBy rule texts states → AreStatesBy rule texts others → states ≡ others
