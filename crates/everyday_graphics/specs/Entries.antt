-- What `ti-tic` writes of the blocks of a source (tic(1)): what becomes of them, each entry with its
-- line graphics, unless it is over its limit with them.
use Rattle.std.specs.Prelude.{◌≡◌, ℕ, Bool, true, false, List, length, Option, Some, None, nat_le, if◌then◌else◌}
use Rattle.std.specs.List.{AllZip}
use Rattle.ti_source.specs.declared.parsing.Rule.{Rule}
use Rattle.ti_source.specs.Reading.{Reading}
use Rattle.ti_source.specs.Parsing.{reading_of_text}
use Rattle.ti_layout.specs.Image.{image, image_limit}
use Rattle.ti_layout.specs.Values.{Mention}
use Rattle.base_meaning.specs.Readings.{reading_by, readings_by}
use Rattle.base_meaning.specs.Expansion.{expansion}
use Rattle.base_meaning.specs.Compiled as profile
use Rattle.base_meaning.specs.Compiled.{EntryState, unresolved, oversized, written}
use Rattle.user_extension.specs.UserDefined.{Row}
use Rattle.user_extension.specs.Extension.{entry, entry_limit}
use Rattle.user_values.specs.Expansion.{UserMention, first_said, expansion_by}
use Rattle.user_compiling.specs.Entries as compiled
use Rattle.user_compiling.specs.Rows.{AreRowsOf}
use Rattle.everyday_graphics.specs.Graphics.{drawn_values}

-- another entry in the place of one that was written, if it is within its limit
abbrev pub in_place : EntryState → ℕ → List ℕ → EntryState
in_place (written bytes) limit other = if nat_le (length other) limit then written other else written bytes
in_place unresolved limit other = unresolved
in_place oversized limit other = oversized

-- ---- with user-defined capabilities

-- what becomes of a block that says this of the tables and has these user-defined capabilities
abbrev pub drawn_state : Bool → Reading → List Mention → List Row → EntryState
drawn_state draws block mentions rows =
    in_place (compiled.state_with block mentions rows) (entry_limit (drawn_values draws mentions) rows) (entry block.field (drawn_values draws mentions) rows)

-- how the state of a block is found that resolves
pub record HasDrawnState (draws : Bool) (rule : Rule) (texts : List (List ℕ)) (text : List ℕ) (state : EntryState) : Type 0 where
  pub mentions : List Mention
  pub user_mentions : List UserMention
  pub rows : List Row
  pub expands : expansion (readings_by rule texts) (reading_by rule text) ≡ Some mentions
  pub user_expands : expansion_by rule texts text ≡ Some user_mentions
  pub are_rows : AreRowsOf (first_said user_mentions) rows
  pub is : state ≡ drawn_state draws (reading_of_text text) mentions rows

-- what becomes of a block of such a list
pub data IsDrawnState (draws : Bool) (rule : Rule) (texts : List (List ℕ)) (text : List ℕ) : EntryState → Type 0 where
  does_not_resolve : expansion (readings_by rule texts) (reading_by rule text) ≡ None → IsDrawnState draws rule texts text unresolved
  does_resolve : {state : EntryState} → HasDrawnState draws rule texts text state → IsDrawnState draws rule texts text state

-- ---- without them

-- what becomes of a block that says this, if it resolves
abbrev pub drawn_image : Bool → Reading → Option (List Mention) → EntryState
drawn_image draws block None = unresolved
drawn_image draws block (Some mentions) =
    in_place (profile.state_with block (Some mentions)) (image_limit (drawn_values draws mentions)) (image block.field (drawn_values draws mentions))

-- ---- with them or without them

-- what is written of a block of a list that is read by a rule, with line graphics if they are drawn
abbrev pub IsWrittenState : Rule → Bool → Bool → List (List ℕ) → List ℕ → EntryState → Type 0
IsWrittenState rule true draws texts text state = IsDrawnState draws rule texts text state
IsWrittenState rule false draws texts text state =
    state ≡ drawn_image draws (reading_by rule text) (expansion (readings_by rule texts) (reading_by rule text))

-- what is written of each block of it
abbrev pub AreWrittenStates : Rule → Bool → Bool → List (List ℕ) → List EntryState → Type 0
AreWrittenStates rule user_defined draws texts states = AllZip (IsWrittenState rule user_defined draws texts) texts states
