-- What a file of a directory is to the table of toe(1).
use Rattle.std.specs.Prelude.{◌≡◌, ℕ, ◌-◌, ◌==◌, nat_lt, ◌&&◌, true, false, if◌then◌else◌, List, [], codes, length, bytes_eq, slice_index_or, Ok, Err}
use Rattle.std.specs.List.{before_first, slice_split}
use Rattle.ti_text.specs.Ascii as ascii
use Rattle.ti_layout.specs.View.{Entry, entry_seen}
use Rattle.ti_layout.specs.declared.view.View.{View}
use Rattle.tools_devices.specs.Searching.{file_bytes_max}
use Rattle.user_extension.specs.Reading.{ReadRow}
use Rattle.user_extension.specs.View.{read_rows}
use Rattle.user_extension.specs.declared.fault.ExtensionError.{ExtensionError}
use Rattle.user_extension.specs.declared.view.Extension.{Extension}
use Rattle.tools_directories.specs.Reading.{Opens}
use Rattle.everyday_toe.specs.Sums.{entry_sum}
use Rattle.everyday_toe.specs.declared.seeing.Row.{Row}
use Rattle.everyday_toe.specs.declared.seeing.Seen.{Seen}
use Rattle.everyday_toe.specs.declared.seeing.Seen.TheVariants as seen

-- the first name of an entry, its description, and a sum of what it has
pub record Line : Type 0 where
  pub name : List ℕ
  pub description : List ℕ
  pub sum : ℕ

-- the line of a row, as plain data
abbrev pub row_line : Row → Line
row_line row = record { name = row.name.items; description = row.description.items; sum = row.sum }

-- the names up to the first bar
abbrev pub first_name : List ℕ → List ℕ
first_name names = before_first (λ b. b == ascii.bar) names

-- the parts of the names, which bars separate
abbrev pub parts_of : List ℕ → List (List ℕ)
parts_of names = slice_split (λ byte. byte == ascii.bar) names

-- the last of some texts
abbrev pub last_of : List (List ℕ) → List ℕ
last_of texts = slice_index_or texts (length texts - 1) []

-- the description among the parts of the names: the last, if it is not the first and not empty
abbrev pub described : List (List ℕ) → List ℕ
described parts = if nat_lt 1 (length parts) && nat_lt 0 (length (last_of parts)) then last_of parts else codes "(No description)"

-- the line of an entry with user-defined capabilities
abbrev pub line_of : Entry → List ReadRow → Line
line_of entry rows = record { name = first_name entry.names; description = described (parts_of entry.names); sum = entry_sum entry rows }

-- What a file is, by its name and its bytes: an entry, if its first name is that of the file; of
-- another name of it an alias; else not an entry.
pub data IsSeen (name bytes : List ℕ) : Seen → Type 0 where
  of_entry : {view : View} {extension : Extension} {row : Row} → Opens file_bytes_max bytes (Ok (view, extension)) →
      bytes_eq (first_name (entry_seen view).names) name ≡ true → row_line row ≡ line_of (entry_seen view) (read_rows extension) →
      IsSeen name bytes (seen.Entry row)
  of_alias : {view : View} {extension : Extension} → Opens file_bytes_max bytes (Ok (view, extension)) →
      bytes_eq (first_name (entry_seen view).names) name ≡ false → IsSeen name bytes seen.Alias
  of_fault : {error : ExtensionError} → Opens file_bytes_max bytes (Err error) → IsSeen name bytes seen.Damaged
