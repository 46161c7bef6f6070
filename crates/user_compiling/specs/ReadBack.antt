-- What is read of the entries of a source whose user-defined capabilities are kept (term(5),
-- user_caps(5)).
use Rattle.std.specs.Prelude.{◌≡◌, ℕ, List, All, Some, slice_get}
use Rattle.ti_caps.specs.Tables.{Capability, IsCapability}
use Rattle.ti_source.specs.Cutting.{OneBlock}
use Rattle.ti_source.specs.declared.parsing.Rule.{Rule}
use Rattle.ti_source.specs.Parsing.{reading_of_text}
use Rattle.ti_layout.specs.Values.{Contents, Mention}
use Rattle.ti_layout.specs.Reading.{Reads}
use Rattle.base_meaning.specs.Readings.{reading_by, readings_by}
use Rattle.base_meaning.specs.Expansion.{values, expansion}
use Rattle.base_meaning.specs.Compiled.{EntryState, written}
use Rattle.user_extension.specs.UserDefined.{AreUserDefined, Row}
use Rattle.user_extension.specs.Reading.{EndsWell, rows_after, said}
use Rattle.user_values.specs.Expansion.{UserMention, first_said, expansion_by, user_value_by}
use Rattle.user_compiling.specs.Rows.{AreRowsOf}
use Rattle.user_compiling.specs.Entries.{IsStateBy}

-- by any rule, the user-defined capabilities of a block of a source are such as an entry may have
abbrev pub RowsAreUserDefined : Type 0
RowsAreUserDefined =
    (rule : Rule) (texts : List (List ℕ)) (at : ℕ) (text : List ℕ) (mentions : List UserMention) (rows : List Row) → All OneBlock texts
    → slice_get texts at ≡ Some text → expansion_by rule texts text ≡ Some mentions → AreRowsOf (first_said mentions) rows → AreUserDefined rows

-- the bytes are read as what the block at that position says, by the rule of the source: its names
-- field, the value of each capability, and the value of each user-defined name
pub record ReadsBack (rule : Rule) (texts : List (List ℕ)) (at : ℕ) (text bytes : List ℕ) : Type 0 where
  pub contents : Contents
  pub mentions : List Mention
  pub expands : expansion (readings_by rule texts) (reading_by rule text) ≡ Some mentions
  pub reads : Reads bytes (reading_of_text text).field contents
  pub tables : (c : Capability) → IsCapability c → contents c ≡ values mentions c
  pub ends_well : EndsWell bytes
  pub user_defined : (name : List ℕ) → said (rows_after bytes) name ≡ user_value_by rule texts at name

-- each entry that is written of a block of a source is read so
abbrev pub EntriesReadBack : Type 0
EntriesReadBack =
    (rule : Rule) (texts : List (List ℕ)) (at : ℕ) (text bytes : List ℕ) → All OneBlock texts → slice_get texts at ≡ Some text
    → IsStateBy rule texts text (written bytes) → ReadsBack rule texts at text bytes

-- of a block of the list only one thing becomes
abbrev pub StatesOfBlocksAreDetermined : Type 0
StatesOfBlocksAreDetermined =
    (rule : Rule) (texts : List (List ℕ)) (text : List ℕ) (state other : EntryState) → IsStateBy rule texts text state → IsStateBy rule texts text other
    → state ≡ other
