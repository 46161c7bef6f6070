-- What the steps of reading know of an entry (term(5)): the header's numbers, and the sections that
-- they cut.
use Rattle.std.specs.Prelude.{◌≡◌, ◌≢◌, ℕ, suc, ◌*◌, ◌<◌, ◌≤◌, List, length, slice_index}
use Rattle.ti_text.specs.Ascii as ascii
use Rattle.ti_caps.specs.Tables.{count_of}
use Rattle.ti_caps.specs.declared.capability.Kind.TheVariants.{Flag, Number, Text}
use Rattle.ti_layout.specs.declared.layout.Format.{Format}
use Rattle.ti_layout.specs.declared.layout.Format.TheVariants.{Legacy}
use Rattle.ti_layout.specs.declared.header.Header.{Header}
use Rattle.ti_layout.specs.declared.sections.Sections.{Sections}
use Rattle.ti_layout.specs.Layout.{first_negative, header_size, magic, width}
use Rattle.ti_layout.specs.Reading.{IsHeaderAt, word_at, number_at, count_in, format_in, names_size, flag_count, number_count, text_count, strings_size}
use Rattle.ti_layout.specs.Reading.{entry_end}
use Rattle.ti_layout.specs.Reading.{names_section, flags_section, numbers_section, offsets_section, strings_section, IsFlagByte, IsStoredNumber, IsOffset}

-- the bytes begin with this header, and each size and count is within its limit
pub record HasHeader (bytes : List ℕ) (h : Header) : Type 0 where
  pub long : header_size ≤ length bytes
  pub known : word_at 0 bytes ≡ magic (format_in bytes)
  pub read : IsHeaderAt bytes h
  pub names_fit : names_size bytes < first_negative Legacy
  pub flags_fit : flag_count bytes ≤ count_of Flag
  pub numbers_fit : number_count bytes ≤ count_of Number
  pub texts_fit : text_count bytes ≤ count_of Text
  pub strings_fit : strings_size bytes < first_negative Legacy

-- the bytes are as long as their header says, and are cut into these sections
pub record IsCutIntoSections (bytes : List ℕ) (s : Sections) : Type 0 where
  pub sizes : Header
  pub header : HasHeader bytes sizes
  pub whole : entry_end bytes ≤ length bytes
  pub format : s.format ≡ format_in bytes
  pub names : s.names.now ≡ names_section bytes
  pub flags : s.flags.now ≡ flags_section bytes
  pub numbers : s.numbers.now ≡ numbers_section bytes
  pub offsets : s.offsets.now ≡ offsets_section bytes
  pub strings : s.strings.now ≡ strings_section bytes

-- at least one byte and the NUL that ends the names, and no other NUL
pub record AreNames (names : List ℕ) : Type 0 where
  pub some : 2 ≤ length names
  pub no_nul : (k : ℕ) → suc k < length names → slice_index names k ≢ ascii.nul
  pub ended : (k : ℕ) → suc k ≡ length names → slice_index names k ≡ ascii.nul

-- each byte of the section may be that of a boolean
abbrev pub AreFlags : List ℕ → Type 0
AreFlags flags = (k : ℕ) → k < length flags → IsFlagByte (slice_index flags k)

-- each number of a section
abbrev pub EachNumber : Format → List ℕ → (ℕ → Type 0) → Type 0
EachNumber format section P = (k : ℕ) → k < count_in format section → P (number_at format (width format * k) section)

-- each number of the section is not negative, or means absent or cancelled
abbrev pub AreStoredNumbers : Format → List ℕ → Type 0
AreStoredNumbers format numbers = EachNumber format numbers (IsStoredNumber format)

-- each offset leads to a string that a NUL ends in the string table, or means absent or cancelled
abbrev pub AreOffsets : List ℕ → List ℕ → Type 0
AreOffsets offsets strings = EachNumber Legacy offsets (IsOffset strings)
