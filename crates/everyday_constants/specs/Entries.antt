-- A compiled entry with the constants of its strings as characters (term(5), user_caps(5); tried):
-- those of the strings of the tables. User-defined capabilities stay as they are.
use Rattle.std.specs.Prelude.{ℕ, ◌≤◌, List, [], ◌∷◌, length, Option, Some, None}
use Rattle.std.specs.List.{flat_map}
use Rattle.std.specs.Option.{option_map_or}
use Rattle.ti_text.specs.Limits.{names_max}
use Rattle.ti_layout.specs.Reading.{Reads}
use Rattle.ti_layout.specs.Values.{Content, Contents, content_text}
use Rattle.user_extension.specs.Extension.{Fits, entry}
use Rattle.user_extension.specs.Reading.{EndsWell, ReadRow, rows_after}
use Rattle.user_extension.specs.UserDefined.{Row}
use Rattle.everyday_constants.specs.Constants.{with_characters}

-- what a capability has, with the constants of a string as characters
abbrev pub content_with : Option Content → Option Content
content_with (Some (content_text text)) = Some (content_text (with_characters text))
content_with other = other

-- the same of each capability
abbrev pub contents_with : Contents → Contents
contents_with contents c = content_with (contents c)

-- the user-defined capability of a row of an extension, if it has a value
abbrev pub present_row : ReadRow → List Row
present_row row = option_map_or (λ content. (row.0, content) ∷ []) row.1 []

-- those of the rows
abbrev pub present_rows : List ReadRow → List Row
present_rows rows = flat_map present_row rows

-- Bytes can be written with characters: they are an entry of this names field, which is not too long
-- for the writer, and of these values, and it is within its limit with characters.
pub record CanBeWritten (bytes names : List ℕ) (contents : Contents) : Type 0 where
  pub reads : Reads bytes names contents
  pub ends_well : EndsWell bytes
  pub short : length names ≤ names_max
  pub fits : Fits names (contents_with contents) (present_rows (rows_after bytes))

-- bytes with characters: the entry that they are, with the values so; and they themselves, if they
-- cannot be written so
pub data IsWithCharacters (bytes : List ℕ) : List ℕ → Type 0 where
  is_written : (names : List ℕ) (contents : Contents) → CanBeWritten bytes names contents
      → IsWithCharacters bytes (entry names (contents_with contents) (present_rows (rows_after bytes)))
  is_kept : ((names : List ℕ) (contents : Contents) → ¬ CanBeWritten bytes names contents) → IsWithCharacters bytes bytes
