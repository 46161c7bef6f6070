-- What is read of the entries that are written with line graphics (term(5), user_caps(5)).
use Rattle.std.specs.Prelude.{◌≡◌, ◌⊎◌, ℕ, Bool, List, All, Some, slice_get}
use Rattle.ti_caps.specs.Tables.{Capability, IsCapability}
use Rattle.ti_source.specs.Cutting.{OneBlock}
use Rattle.ti_source.specs.declared.parsing.Rule.{Rule}
use Rattle.ti_source.specs.Parsing.{reading_of_text}
use Rattle.ti_layout.specs.Reading.{Reads}
use Rattle.ti_layout.specs.Values.{Contents, Mention}
use Rattle.base_meaning.specs.Compiled.{written}
use Rattle.base_meaning.specs.Expansion.{expansion, values}
use Rattle.base_meaning.specs.Readings.{reading_by, readings_by}
use Rattle.user_extension.specs.Extension.{IsTooLarge}
use Rattle.user_extension.specs.Reading.{EndsWell, rows_after, said}
use Rattle.user_extension.specs.UserDefined.{Row}
use Rattle.user_values.specs.Expansion.{UserMention, expansion_by, first_said, user_value_by}
use Rattle.user_compiling.specs.Rows.{AreRowsOf}
use Rattle.everyday_graphics.specs.Entries.{IsDrawnState}
use Rattle.everyday_graphics.specs.Graphics.{drawn_values}

-- the values that are written of a block that says this and has these user-defined capabilities: those
-- with line graphics, or its own if the entry is over its limit with these
abbrev pub AreWrittenValues : Bool → List ℕ → List Mention → List Row → Contents → Type 0
AreWrittenValues draws field mentions rows given =
    (given ≡ drawn_values draws mentions) ⊎ ((given ≡ values mentions) × IsTooLarge field (drawn_values draws mentions) rows)

-- the bytes are read as what is written of the block at that position, by the rule of the source: its
-- names field, these values, and the value of each user-defined name
pub record DrawnReadsBack (draws : Bool) (rule : Rule) (texts : List (List ℕ)) (at : ℕ) (text bytes : List ℕ) : Type 0 where
  pub mentions : List Mention
  pub user_mentions : List UserMention
  pub rows : List Row
  pub expands : expansion (readings_by rule texts) (reading_by rule text) ≡ Some mentions
  pub user_expands : expansion_by rule texts text ≡ Some user_mentions
  pub are_rows : AreRowsOf (first_said user_mentions) rows
  pub given : Contents
  pub are_given : AreWrittenValues draws (reading_of_text text).field mentions rows given
  pub contents : Contents
  pub reads : Reads bytes (reading_of_text text).field contents
  pub tables : (c : Capability) → IsCapability c → contents c ≡ given c
  pub ends_well : EndsWell bytes
  pub user_defined : (name : List ℕ) → said (rows_after bytes) name ≡ user_value_by rule texts at name

-- each entry that is written of a block of a source is read so
abbrev pub DrawnEntriesReadBack : Type 0
DrawnEntriesReadBack =
    (draws : Bool) (rule : Rule) (texts : List (List ℕ)) (at : ℕ) (text bytes : List ℕ) → All OneBlock texts → slice_get texts at ≡ Some text
    → IsDrawnState draws rule texts text (written bytes) → DrawnReadsBack draws rule texts at text bytes
