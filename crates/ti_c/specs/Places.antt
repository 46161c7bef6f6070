-- The directories in which entries are, as C asks for them: term(5), "Storage location".
use Rattle.std.specs.Prelude.{◌≡◌, ◌<◌, ◌++◌, ◌∷◌, [], ℕ, Bool, if◌then◌else◌, List, length, Option, Some, None, slice_get}
use Rattle.ti_text.specs.Ascii as ascii
use Rattle.tools_devices.specs.Paths.{path_of}
use Rattle.tools_devices.specs.Searching.{directories_of}
use Rattle.ti_c.specs.Answers.{IsWritten}

-- what a variable of the environment holds, if it is set
abbrev pub set_to : Bool → List ℕ → Option (List ℕ)
set_to is_set value = if is_set then Some value else None

-- the directory at a place of the order in which they are looked through; None if there are not
-- that many
abbrev pub directory_at : List ℕ → Bool → List ℕ → ℕ → Option (List ℕ)
directory_at terminfo is_set dirs index = slice_get (directories_of (Some terminfo) (set_to is_set dirs)) index

-- the path of a name's entry below a directory, with a NUL after it
abbrev pub path_bytes : List ℕ → List ℕ → List ℕ
path_bytes dir name = path_of dir name ++ ascii.nul ∷ []

-- the path was written, this many bytes
abbrev pub IsPathWritten : (dir name room written : List ℕ) → ℕ → Type 0
IsPathWritten dir name room written size = (size ≡ length (path_bytes dir name)) × IsWritten (path_bytes dir name) room written

-- the path has this many bytes, which is more than the room has
abbrev pub IsTooLong : (dir name room : List ℕ) → ℕ → Type 0
IsTooLong dir name room size = (size ≡ length (path_bytes dir name)) × (length room < size)
