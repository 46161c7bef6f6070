-- The entry that the bytes of a file are, with its user-defined capabilities (term(5), "Extended
-- storage format"; the limit on a file is own).
use Rattle.std.specs.Prelude.{◌≡◌, ◌⊎◌, ℕ, suc, ◌≤◌, ◌<◌, List, length, take, Result, Ok, Err}
use Rattle.ti_layout.specs.Reading.{Reads}
use Rattle.ti_layout.specs.View.{entry_seen, names_of, view_contents}
use Rattle.ti_layout.specs.declared.fault.ReadError.TheVariants.{Counts}
use Rattle.ti_layout.specs.declared.view.View.{View}
use Rattle.tools_devices.specs.Searching as profile
use Rattle.tools_devices.specs.Searching.{file_bytes_max}
use Rattle.tools_devices.specs.declared.tool_error.ToolError.{ToolError}
use Rattle.user_extension.specs.Reading.{EndsWell, FailsToRead, rows_after}
use Rattle.user_extension.specs.View.{read_rows}
use Rattle.user_extension.specs.declared.fault.ExtensionError.{ExtensionError}
use Rattle.user_extension.specs.declared.fault.ExtensionError.TheVariants as errors
use Rattle.user_extension.specs.declared.view.Extension.{Extension}

-- the bytes are an entry, and what follows it is nothing or an extension
pub record IsEntry (bytes : List ℕ) (view : View) (extension : Extension) : Type 0 where
  pub reads : Reads bytes (names_of view) (view_contents view)
  pub rows : read_rows extension ≡ rows_after bytes
  pub ends : EndsWell bytes

-- the refusal of a file over the limit: that of its first bytes, one more than the limit, or that
-- of its counts if these are an entry
abbrev pub IsTooLong : ℕ → List ℕ → ExtensionError → Type 0
IsTooLong limit bytes error =
    (limit < length bytes)
    × (FailsToRead (take (suc limit) bytes) error
    ⊎ ((error ≡ errors.Entry Counts) × (view : View) × (extension : Extension) × IsEntry (take (suc limit) bytes) view extension))

-- the entry that bytes within the limit read as, or their refusal
abbrev pub Opens : ℕ → List ℕ → Result (View × Extension) ExtensionError → Type 0
Opens limit bytes (Ok r) = (length bytes ≤ limit) × IsEntry bytes r.0 r.1
Opens limit bytes (Err error) = ((length bytes ≤ limit) × FailsToRead bytes error) ⊎ IsTooLong limit bytes error

-- ---- laws

-- the same entry with the same user-defined names, or the same refusal
abbrev pub ReadsAlike : Result (View × Extension) ExtensionError → Result (View × Extension) ExtensionError → Type 0
ReadsAlike (Ok one) (Ok other) = (entry_seen one.0 ≡ entry_seen other.0) × (read_rows one.1 ≡ read_rows other.1)
ReadsAlike (Ok one) (Err error) = ⊥
ReadsAlike (Err error) (Ok other) = ⊥
ReadsAlike (Err error) (Err other) = error ≡ other

-- a file is read in only one way
abbrev pub FilesHaveOneReading : Type 0
FilesHaveOneReading =
    (bytes : List ℕ) (one other : Result (View × Extension) ExtensionError) → Opens file_bytes_max bytes one → Opens file_bytes_max bytes other
    → ReadsAlike one other

-- a file that is an entry with user-defined capabilities is one to a reader that knows none of them,
-- with the same names and the same capabilities of the tables
abbrev pub TablesAreReadAlike : Type 0
TablesAreReadAlike =
    (bytes : List ℕ) (view : View) (extension : Extension) (result : Result View ToolError) → Opens file_bytes_max bytes (Ok (view, extension))
    → profile.Opens file_bytes_max bytes result → (other : View) × (result ≡ Ok other) × (entry_seen other ≡ entry_seen view)
