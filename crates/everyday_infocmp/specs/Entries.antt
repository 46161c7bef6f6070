-- The entries that files are, with or without their user-defined capabilities (term(5)).
use Rattle.std.specs.Prelude.{◌≡◌, ◌⊎◌, ⊤, ◌≤◌, ℕ, Bool, true, false, List, [], ◌∷◌, length, Err}
use Rattle.std.specs.String.{string_bytes}
use Rattle.ti_layout.specs.Reading.{Reads}
use Rattle.ti_layout.specs.View.{entry_seen}
use Rattle.ti_layout.specs.declared.view.View.{View}
use Rattle.tools_devices.specs.Searching as plain
use Rattle.tools_devices.specs.Searching.{file_bytes_max}
use Rattle.tools_devices.specs.declared.tool_error.ToolError.TheVariants as tool_error
use Rattle.user_extension.specs.Reading.{EndsWell, rows_after}
use Rattle.user_extension.specs.declared.fault.ExtensionError.{ExtensionError}
use Rattle.user_extension.specs.declared.fault.ExtensionError.TheVariants as errors
use Rattle.user_listing.specs.Entries.{Extended}
use Rattle.tools_directories.specs.Reading as extended
use Rattle.tools_directories.specs.declared.finding.Found.{Found}
use Rattle.everyday_entries.specs.Failures.{out_of_memory}
use Rattle.everyday_entries.specs.declared.failure.Failure.{Failure}
use Rattle.everyday_entries.specs.declared.failure.Failure.TheVariants.{BadEntry}

-- an entry without user-defined capabilities
abbrev pub plain_entry : View → Extended
plain_entry view = record { entry = entry_seen view; rows = [] }

-- the rows of an entry's extension; none are taken without `-x`
abbrev pub HasRows : Bool → List ℕ → Extended → Type 0
HasRows false bytes e = e.rows ≡ []
HasRows true bytes e = (e.rows ≡ rows_after bytes) × EndsWell bytes

-- the file is this entry; with `-x` what follows it is nothing or an extension
abbrev pub IsEntry : Bool → Found → Extended → Type 0
IsEntry user file e =
    (length file.bytes.items ≤ file_bytes_max) × Reads file.bytes.items e.entry.names e.entry.contents × HasRows user file.bytes.items e

-- the bytes are refused for this
abbrev pub AreRefused : Bool → List ℕ → ExtensionError → Type 0
AreRefused false bytes (errors.Entry why) = plain.Opens file_bytes_max bytes (Err (tool_error.BadEntry why))
AreRefused false bytes errors.BadExtension = ⊥
AreRefused true bytes why = extended.Opens file_bytes_max bytes (Err why)

-- the failure says that the file is not an entry, with its path and why
abbrev pub IsRefusalOf : Found → ExtensionError → Failure → Type 0
IsRefusalOf file why (BadEntry path said) = (string_bytes path ≡ string_bytes file.path) × (said ≡ why)
IsRefusalOf file why failure = failure ≡ out_of_memory

-- why a file gives no entry
abbrev pub IsRefused : Bool → Found → Failure → Type 0
IsRefused user file failure =
    (failure ≡ out_of_memory) ⊎ ((why : ExtensionError) × AreRefused user file.bytes.items why × IsRefusalOf file why failure)

-- the files are these entries
abbrev pub AreEntries : Bool → List Found → List Extended → Type 0
AreEntries user [] [] = ⊤
AreEntries user (file ∷ files) (e ∷ es) = IsEntry user file e × AreEntries user files es
AreEntries user files es = ⊥

-- all files are entries
abbrev pub AllEntries : Bool → List Found → Type 0
AllEntries user files = (es : List Extended) × AreEntries user files es

-- why files give no entries: the first that is none, after files that are; or memory ran out
abbrev pub IsBadFile : Bool → List Found → Failure → Type 0
IsBadFile user [] failure = failure ≡ out_of_memory
IsBadFile user (file ∷ files) failure = IsRefused user file failure ⊎ (((e : Extended) × IsEntry user file e) × IsBadFile user files failure)
