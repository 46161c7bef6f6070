-- What the bytes of a compiled entry say (term(5), "Legacy storage format" and "Extended number
-- format"), and why bytes are refused.
use Rattle.ti_text.specs.Ascii as ascii
use Rattle.std.specs.Prelude.{◌≡◌, ◌≢◌, ℕ, suc, ◌+◌, ◌*◌, ◌-◌, ◌/◌, ◌%◌, ◌<◌, ◌≤◌, ◌==◌, nat_lt, if◌then◌else◌, List, length, drop, slice_index, slice_range}
use Rattle.std.specs.Prelude.{slice_get, All, Option, Some, None, option_and_then, ◌⊎◌}
use Rattle.std.specs.List.{before_first}
use Rattle.ti_caps.specs.Tables.{count_of}
use Rattle.ti_caps.specs.declared.capability.Kind.{Kind}
use Rattle.ti_caps.specs.declared.capability.Kind.TheVariants.{Flag, Number, Text}
use Rattle.ti_layout.specs.declared.fault.ReadError.{ReadError}
use Rattle.ti_layout.specs.declared.fault.ReadError.TheVariants.{Short, Magic, Counts, Truncated, BadNames, BadFlag, BadNumber, BadOffset}
use Rattle.ti_layout.specs.declared.header.Header.{Header}
use Rattle.ti_layout.specs.declared.layout.Format.{Format}
use Rattle.ti_layout.specs.declared.layout.Format.TheVariants.{Legacy, Extended}
use Rattle.ti_layout.specs.Image.{below}
use Rattle.ti_layout.specs.Layout.{Sections, absent_mark, cancelled_mark, entry_bytes, header_size, magic, first_negative, width, flags_offset}
use Rattle.ti_layout.specs.Layout.{numbers_offset, offsets_offset, strings_offset}
use Rattle.ti_layout.specs.Values.{Content, content_true, content_number, content_text, Contents, HasNoNul}

-- ---- the numbers that bytes spell

-- the 16-bit number at an offset, its low byte first
abbrev pub word_at : ℕ → List ℕ → ℕ
word_at at bytes = slice_index bytes at + 256 * slice_index bytes (at + 1)

-- the number of a format at an offset, its low byte first
abbrev pub number_at : Format → ℕ → List ℕ → ℕ
number_at Legacy at bytes = word_at at bytes
number_at Extended at bytes =
    slice_index bytes at + 256 * (slice_index bytes (at + 1) + 256 * (slice_index bytes (at + 2) + 256 * slice_index bytes (at + 3)))

-- how many numbers of a format a section has
abbrev pub count_in : Format → List ℕ → ℕ
count_in format section = length section / width format

-- the numbers of a format in a section
abbrev pub numbers_in : Format → List ℕ → List ℕ
numbers_in format section = below (λ i. number_at format (width format * i) section) (count_in format section)

-- ---- what may be in a section

-- the byte of -2, which means a cancelled boolean of old writers; that of -1, the greatest byte,
-- means an absent one
abbrev pub cancelled_flag : ℕ
cancelled_flag = 254

-- 0 and 1, and the absent and cancelled of old writers
abbrev pub IsFlagByte : ℕ → Type 0
IsFlagByte b = (b < 2) ⊎ (cancelled_flag ≤ b)

-- not negative as a signed number
abbrev pub IsPlain : Format → ℕ → Type 0
IsPlain format n = n < first_negative format

-- -1 and -2: absent and cancelled
abbrev pub IsVoid : Format → ℕ → Type 0
IsVoid format n = (cancelled_mark format ≤ n) × (n ≤ absent_mark format)

-- a NUL is at the offset or after it, within the table
abbrev pub HasEnd : List ℕ → ℕ → Type 0
HasEnd strings offset = (i : ℕ) × (offset ≤ i) × (i < length strings) × (slice_index strings i ≡ ascii.nul)

-- a number that is not negative, or means absent or cancelled
abbrev pub IsStoredNumber : Format → ℕ → Type 0
IsStoredNumber format n = IsPlain format n ⊎ IsVoid format n

-- an offset that leads to a string with its NUL, or means absent or cancelled
abbrev pub IsOffset : List ℕ → ℕ → Type 0
IsOffset strings n = (IsPlain Legacy n × HasEnd strings n) ⊎ IsVoid Legacy n

-- the sizes of the sections are within the limits, and each boolean, number and offset may be there
pub record AreSound (format : Format) (s : Sections) : Type 0 where
  pub some_names : 0 < length s.names
  pub names_size : suc (length s.names) < first_negative Legacy
  pub no_nul : HasNoNul s.names
  pub flag_count : length s.flags ≤ count_of Flag
  pub number_count : length s.numbers ≤ count_of Number
  pub text_count : length s.offsets ≤ count_of Text
  pub strings_size : length s.strings < first_negative Legacy
  pub gap_size : length s.gap ≡ (suc (length s.names) + length s.flags) % 2
  pub flags : All IsFlagByte s.flags
  pub numbers : All (IsStoredNumber format) s.numbers
  pub offsets : All (IsOffset s.strings) s.offsets

-- ---- what the sections say

-- what a boolean's byte says: 1 is true, and any other is absent
abbrev pub stored_flag : ℕ → Option Content
stored_flag b = if b == 1 then Some content_true else None

-- what a number says: itself, or absent if it is negative
abbrev pub stored_number : Format → ℕ → Option Content
stored_number format n = if nat_lt n (first_negative format) then Some (content_number n) else None

-- the bytes from an offset to before the first NUL
abbrev pub text_from : List ℕ → ℕ → List ℕ
text_from strings offset = before_first (λ b. b == ascii.nul) (drop offset strings)

-- what an offset says: the string that begins there, or absent if it is negative
abbrev pub stored_text : List ℕ → ℕ → Option Content
stored_text strings n = if nat_lt n (first_negative Legacy) then Some (content_text (text_from strings n)) else None

-- what the sections say of the capability of a kind and an index, absent past the section's end
abbrev pub says : Format → List ℕ → List ℕ → List ℕ → List ℕ → Kind → ℕ → Option Content
says format flags numbers offsets strings Flag index = stored_flag (slice_index flags index)
says format flags numbers offsets strings Number index = option_and_then (stored_number format) (slice_get numbers index)
says format flags numbers offsets strings Text index = option_and_then (stored_text strings) (slice_get offsets index)

-- what the sections say of each capability
abbrev pub contents_of : Format → List ℕ → List ℕ → List ℕ → List ℕ → Contents
contents_of format flags numbers offsets strings c = says format flags numbers offsets strings c.kind c.index

-- The bytes are an entry with these names and these contents. A cancelled value is absent.
pub record Reads (bytes names : List ℕ) (contents : Contents) : Type 0 where
  pub format : Format
  pub sections : Sections
  pub sound : AreSound format sections
  pub whole : bytes ≡ entry_bytes format sections
  pub named : names ≡ sections.names
  pub held : contents ≡ contents_of format sections.flags sections.numbers sections.offsets sections.strings

-- ---- why bytes are refused (own order)

-- the format that the first number says, if it is one of the two
abbrev pub format_in : List ℕ → Format
format_in bytes = if word_at 0 bytes == magic Extended then Extended else Legacy

-- the size of the names with their NUL, by the header
abbrev pub names_size : List ℕ → ℕ
names_size bytes = word_at 2 bytes

-- how many booleans there are, by the header
abbrev pub flag_count : List ℕ → ℕ
flag_count bytes = word_at 4 bytes

-- how many numbers there are, by the header
abbrev pub number_count : List ℕ → ℕ
number_count bytes = word_at 6 bytes

-- how many offsets of strings there are, by the header
abbrev pub text_count : List ℕ → ℕ
text_count bytes = word_at 8 bytes

-- the size of the string table, by the header
abbrev pub strings_size : List ℕ → ℕ
strings_size bytes = word_at 10 bytes

-- the header has the format, the sizes and the counts with which the bytes begin
pub record IsHeaderAt (bytes : List ℕ) (h : Header) : Type 0 where
  pub format : h.format ≡ format_in bytes
  pub names : h.names ≡ names_size bytes
  pub flags : h.flags ≡ flag_count bytes
  pub numbers : h.numbers ≡ number_count bytes
  pub texts : h.texts ≡ text_count bytes
  pub strings : h.strings ≡ strings_size bytes

-- where the booleans begin
abbrev pub flags_begin : List ℕ → ℕ
flags_begin bytes = flags_offset (names_size bytes)

-- where the numbers begin
abbrev pub numbers_begin : List ℕ → ℕ
numbers_begin bytes = numbers_offset (names_size bytes) (flag_count bytes)

-- where the offsets begin
abbrev pub offsets_begin : List ℕ → ℕ
offsets_begin bytes = offsets_offset (format_in bytes) (names_size bytes) (flag_count bytes) (number_count bytes)

-- where the string table begins
abbrev pub strings_begin : List ℕ → ℕ
strings_begin bytes = strings_offset (format_in bytes) (names_size bytes) (flag_count bytes) (number_count bytes) (text_count bytes)

-- where the string table ends, and with it the entry
abbrev pub entry_end : List ℕ → ℕ
entry_end bytes = strings_begin bytes + strings_size bytes

-- the sections, if the bytes are that long: the names with their NUL
abbrev pub names_section : List ℕ → List ℕ
names_section bytes = slice_range bytes header_size (flags_begin bytes)

-- the booleans, a byte each
abbrev pub flags_section : List ℕ → List ℕ
flags_section bytes = slice_range bytes (flags_begin bytes) (flags_begin bytes + flag_count bytes)

-- the numbers, by the width of the format
abbrev pub numbers_section : List ℕ → List ℕ
numbers_section bytes = slice_range bytes (numbers_begin bytes) (offsets_begin bytes)

-- the offsets, two bytes each
abbrev pub offsets_section : List ℕ → List ℕ
offsets_section bytes = slice_range bytes (offsets_begin bytes) (strings_begin bytes)

-- the string table
abbrev pub strings_section : List ℕ → List ℕ
strings_section bytes = slice_range bytes (strings_begin bytes) (entry_end bytes)

-- a size is negative, or a count is negative or over its table
abbrev pub HasBadCount : List ℕ → Type 0
HasBadCount bytes =
    (first_negative Legacy ≤ names_size bytes) ⊎ (count_of Flag < flag_count bytes) ⊎ (count_of Number < number_count bytes)
    ⊎ (count_of Text < text_count bytes) ⊎ (first_negative Legacy ≤ strings_size bytes)

-- below two bytes, a NUL before the last byte, or no NUL as the last byte
abbrev pub HasBadNames : List ℕ → Type 0
HasBadNames names =
    (length names < 2) ⊎ ((k : ℕ) × (suc k < length names) × (slice_index names k ≡ ascii.nul))
    ⊎ (slice_index names (length names - 1) ≢ ascii.nul)

-- a byte that is neither 0 nor 1, nor the absent or cancelled of old writers
abbrev pub HasBadFlag : List ℕ → Type 0
HasBadFlag flags = (k : ℕ) × (k < length flags) × (2 ≤ slice_index flags k) × (slice_index flags k < cancelled_flag)

-- some number of a section
abbrev pub SomeNumber : Format → List ℕ → (ℕ → Type 0) → Type 0
SomeNumber format section P = (k : ℕ) × (k < count_in format section) × P (number_at format (width format * k) section)

-- below -2 as a signed number
abbrev pub HasBadNumber : Format → List ℕ → Type 0
HasBadNumber format numbers = SomeNumber format numbers (λ n. (first_negative format ≤ n) × (n < cancelled_mark format))

-- Below -2, at or past the table's size, or with no NUL after it in the table. In each case no NUL
-- is at it or after it in the table, whose size is below 32,768.
abbrev pub HasBadOffset : List ℕ → List ℕ → Type 0
HasBadOffset offsets strings = SomeNumber Legacy offsets (λ n. (n < cancelled_mark Legacy) × ¬ HasEnd strings n)

-- what each refusal says of the bytes
abbrev pub HasReadFault : List ℕ → ReadError → Type 0
HasReadFault bytes Short = length bytes < header_size
HasReadFault bytes Magic = (word_at 0 bytes ≢ magic Legacy) × (word_at 0 bytes ≢ magic Extended)
HasReadFault bytes Counts = HasBadCount bytes
HasReadFault bytes Truncated = length bytes < entry_end bytes
HasReadFault bytes BadNames = HasBadNames (names_section bytes)
HasReadFault bytes BadFlag = HasBadFlag (flags_section bytes)
HasReadFault bytes BadNumber = HasBadNumber (format_in bytes) (numbers_section bytes)
HasReadFault bytes BadOffset = HasBadOffset (offsets_section bytes) (strings_section bytes)

-- the order in which the refusals are looked for
abbrev pub rank : ReadError → ℕ
rank Short = 1
rank Magic = 2
rank Counts = 3
rank Truncated = 4
rank BadNames = 5
rank BadFlag = 6
rank BadNumber = 7
rank BadOffset = 8

-- the refusal holds, and none before it does
pub record FailsToRead (bytes : List ℕ) (error : ReadError) : Type 0 where
  pub holds : HasReadFault bytes error
  pub first : (earlier : ReadError) → rank earlier < rank error → ¬ HasReadFault bytes earlier

-- Bytes are an entry in at most one way, are refused in at most one way, and never both.
abbrev pub EntriesHaveOneReading : Type 0
EntriesHaveOneReading =
    ((bytes m n : List ℕ) (c d : Contents) → Reads bytes m c → Reads bytes n d → (m ≡ n) × (c ≡ d))
    × ((bytes : List ℕ) (e f : ReadError) → FailsToRead bytes e → FailsToRead bytes f → e ≡ f)
    × ((bytes names : List ℕ) (c : Contents) (e : ReadError) → Reads bytes names c → FailsToRead bytes e → ⊥)
