-- Laws of blocks and of entries with long names fields.
use Rattle.std.specs.Prelude.{◌≡◌, ◌≢◌, ◌≤◌, ℕ, true, List, [], ◌∷◌, ◌++◌, length, take}
use Rattle.ti_text.specs.Limits.{names_max}
use Rattle.ti_text.specs.Texts.{HasNoNul}
use Rattle.ti_source.specs.declared.code.Code.TheVariants.{NamesTooLong}
use Rattle.ti_source.specs.Cutting.{OneBlock}
use Rattle.ti_source.specs.Parsing.{reading_of_text}
use Rattle.ti_source.specs.Reading.{ReadFault}
use Rattle.ti_source.specs.Verdicts.{header_fault}
use Rattle.ti_layout.specs.Reading.{Reads}
use Rattle.ti_layout.specs.Values.{Contents}
use Rattle.user_items.specs.Parsing.{user_reading_of_text}
use Rattle.user_extension.specs.Reading.{EndsWell, rows_after}
use Rattle.everyday_names.specs.Entries.{with_names}
use Rattle.everyday_names.specs.Fields.{field_of, fitted, is_long, long_names_max}

-- the error of a names field that is too long, if the field has names
abbrev pub too_long : List (List ℕ) → List ReadFault
too_long [] = []
too_long (name ∷ names) = header_fault NamesTooLong ∷ []

-- a block that is fitted says what the whole block says
pub record ReadsAlike (text : List ℕ) : Type 0 where
  pub block : OneBlock (fitted text)
  pub whole : (reading_of_text text).field ≡ field_of text
  pub part : (reading_of_text (fitted text)).field ≡ take names_max (field_of text)
  pub names : (reading_of_text (fitted text)).names ≡ (reading_of_text text).names
  pub items : (reading_of_text (fitted text)).items ≡ (reading_of_text text).items
  pub faults : (reading_of_text text).faults ≡ too_long (reading_of_text text).names ++ (reading_of_text (fitted text)).faults
  pub user_defined : user_reading_of_text (fitted text) ≡ user_reading_of_text text

-- each block with a long names field is so
abbrev pub FittedBlocksReadAlike : Type 0
FittedBlocksReadAlike = (text : List ℕ) → OneBlock text → is_long text ≡ true → ReadsAlike text

-- An entry with another names field, which an entry can have, is read as that field and as the same
-- values; and what follows it, as the same user-defined capabilities.
pub record NamedReads (field bytes : List ℕ) (contents : Contents) : Type 0 where
  pub reads : Reads (with_names field bytes) field contents
  pub rows : rows_after (with_names field bytes) ≡ rows_after bytes
  pub ends_well : EndsWell bytes → EndsWell (with_names field bytes)

-- each entry with another names field is so
abbrev pub NamedEntriesRead : Type 0
NamedEntriesRead =
    (field bytes names : List ℕ) (contents : Contents) → field ≢ [] → length field ≤ long_names_max → HasNoNul field → Reads bytes names contents
    → NamedReads field bytes contents
