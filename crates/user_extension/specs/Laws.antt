-- What ties reading user-defined capabilities to writing them, and what holds of what is read.
use Rattle.ti_text.specs.Limits.{extended_entry_max, names_max}
use Rattle.std.specs.Prelude.{◌≡◌, ℕ, ◌<◌, ◌≤◌, List, ◌++◌, map, length, slice_index_or, Some}
use Rattle.ti_layout.specs.declared.layout.Format.{Format}
use Rattle.ti_layout.specs.Layout.{first_negative}
use Rattle.ti_layout.specs.Values.{AgreesIfSome, Contents, content_number, content_text}
use Rattle.ti_text.specs.Texts.{HasNoNul}
use Rattle.ti_layout.specs.Reading.{Reads}
use Rattle.ti_layout.specs.Laws.{without_cancel}
use Rattle.ti_caps.specs.Tables.{Capability, IsCapability}
use Rattle.user_extension.specs.UserDefined.{AreUserDefined, Row}
use Rattle.user_extension.specs.Extension.{Fits, entry, extension}
use Rattle.user_extension.specs.Reading.{EndsWell, IsExtension, ReadRow, parts_in, rows_in, rows_after}

-- a format has room for each user-defined number
abbrev pub HoldsNumbers : Format → List Row → Type 0
HoldsNumbers format rows = (i n : ℕ) (d : Row) → i < length rows → (slice_index_or rows i d).1 ≡ content_number n → n < first_negative format

-- each capability with its value
abbrev pub as_read : List Row → List ReadRow
as_read rows = map (λ u. (u.0, Some u.1)) rows

-- An extension of user-defined capabilities is read as these, whatever follows it.
abbrev pub ExtensionsAreRead : Type 0
ExtensionsAreRead =
    (format : Format) (rows : List Row) (more : List ℕ) → AreUserDefined rows → HoldsNumbers format rows → length (extension format rows) ≤ extended_entry_max
    → IsExtension format (extension format rows ++ more) × (rows_in format (parts_in format (extension format rows ++ more)) ≡ as_read rows)

-- An entry within its limit, of names of 1 to 127 bytes without NUL, of contents that agree with
-- their capabilities and of user-defined capabilities, is read as all of these, with cancelled as
-- absent.
abbrev pub EntriesAreRead : Type 0
EntriesAreRead =
    (field : List ℕ) (contents : Contents) (rows : List Row) → 0 < length field → length field ≤ names_max → HasNoNul field
    → ((c : Capability) → IsCapability c → AgreesIfSome c (contents c)) → AreUserDefined rows → Fits field contents rows
    → (read : Contents) × Reads (entry field contents rows) field read × ((c : Capability) → IsCapability c → read c ≡ without_cancel (contents c))
    × EndsWell (entry field contents rows) × (rows_after (entry field contents rows) ≡ as_read rows)

-- A string of an entry that is read holds no NUL.
abbrev pub TextsHaveNoNul : Type 0
TextsHaveNoNul =
    (bytes names : List ℕ) (contents : Contents) → Reads bytes names contents
    → (c : Capability) (text : List ℕ) → contents c ≡ Some (content_text text) → HasNoNul text
