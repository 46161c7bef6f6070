-- What of files and requests an entry as C has it depends on (infocmp(1), -E and -e).
use Rattle.std.specs.Prelude.{ℕ, Bool, true, false, ◌||◌, List, [], ◌∷◌, Option, Some, None}
use Rattle.tools_directories.specs.declared.finding.Found.{Found}
use Rattle.user_extension.specs.Reading.{ReadRow}
use Rattle.everyday_words.specs.Requests.{InfocmpWanted}

-- whether the first entry is printed as C has it
abbrev pub is_initializer : InfocmpWanted → Bool
is_initializer wanted = wanted.structure || wanted.tables

-- the bytes of the first file
abbrev pub first_bytes : List Found → List ℕ
first_bytes [] = []
first_bytes (file ∷ files) = file.bytes.items

-- the rows of an extension, if user-defined capabilities are taken
abbrev pub rows_shown : Bool → List ReadRow → Option (List ReadRow)
rows_shown false rows = None
rows_shown true rows = Some rows
