-- What the bytes after a compiled entry say of user-defined capabilities (term(5), "Extended storage
-- format"), and which bytes do.
use Rattle.std.specs.Prelude.{◌≡◌, ◌≢◌, ℕ, zero, suc, ◌+◌, ◌*◌, ◌-◌, ◌%◌, ◌<◌, ◌≤◌, nat_lt, bytes_eq, if◌then◌else◌, IsTrue, List, [], ◌∷◌, map, length}
use Rattle.std.specs.Prelude.{drop, slice_index, slice_range, Option, None}
use Rattle.std.specs.List.{range_with_len}
use Rattle.std.specs.Option.{option_or}
use Rattle.std.specs.Ordering.{nat_cmp, is_lt}
use Rattle.std.specs.Cmp.Lexicographic.{slice_cmp}
use Rattle.ti_layout.specs.declared.layout.Format.{Format}
use Rattle.ti_layout.specs.declared.layout.Format.TheVariants.{Legacy}
use Rattle.ti_layout.specs.Layout.{first_negative, width}
use Rattle.ti_layout.specs.Values.{Content, Contents}
use Rattle.ti_layout.specs.Reading as entry
use Rattle.user_extension.specs.declared.fault.ExtensionError.{ExtensionError}
use Rattle.user_extension.specs.declared.fault.ExtensionError.TheVariants as errors
use Rattle.ti_layout.specs.Reading.{HasEnd, count_in, entry_end, format_in, number_at, stored_flag, stored_number, stored_text, text_from, word_at}
use Rattle.ti_layout.specs.Sections.{AreFlags, AreOffsets, AreStoredNumbers}
use Rattle.user_items.specs.Names.{is_user_defined_name}

-- ---- the sections, by the five numbers of the header

-- how many booleans
abbrev pub flag_count : List ℕ → ℕ
flag_count rest = word_at 0 rest

-- how many numbers
abbrev pub number_count : List ℕ → ℕ
number_count rest = word_at 2 rest

-- how many strings
abbrev pub text_count : List ℕ → ℕ
text_count rest = word_at 4 rest

-- how many bytes the table has
abbrev pub table_size : List ℕ → ℕ
table_size rest = word_at 8 rest

-- each capability has a name
abbrev pub name_count : List ℕ → ℕ
name_count rest = flag_count rest + number_count rest + text_count rest

-- the bytes of the header
abbrev pub header_size : ℕ
header_size = 10

-- where the numbers begin, after a zero byte if the booleans are odd
abbrev pub numbers_begin : List ℕ → ℕ
numbers_begin rest = header_size + flag_count rest + flag_count rest % 2

-- where the offsets of the values begin
abbrev pub values_begin : Format → List ℕ → ℕ
values_begin format rest = numbers_begin rest + width format * number_count rest

-- where the offsets of the names begin
abbrev pub names_begin : Format → List ℕ → ℕ
names_begin format rest = values_begin format rest + 2 * text_count rest

-- where the table begins
abbrev pub table_begin : Format → List ℕ → ℕ
table_begin format rest = names_begin format rest + 2 * name_count rest

-- where the table ends
abbrev pub table_end : Format → List ℕ → ℕ
table_end format rest = table_begin format rest + table_size rest

-- the sections as bytes: a byte for each boolean; the numbers; the offsets of the values and of the
-- names; the table
pub record Parts : Type 0 where
  pub flags : List ℕ
  pub numbers : List ℕ
  pub values : List ℕ
  pub names : List ℕ
  pub table : List ℕ

-- the sections that the header cuts
abbrev pub parts_in : Format → List ℕ → Parts
parts_in format rest = record {
  flags = slice_range rest header_size (header_size + flag_count rest);
  numbers = slice_range rest (numbers_begin rest) (values_begin format rest);
  values = slice_range rest (values_begin format rest) (names_begin format rest);
  names = slice_range rest (names_begin format rest) (table_begin format rest);
  table = slice_range rest (table_begin format rest) (table_end format rest);
}

-- ---- what they say

-- how many bytes the value at an offset takes with its NUL, none if it is absent
abbrev pub value_size : List ℕ → ℕ → ℕ
value_size table n = if nat_lt n (first_negative Legacy) then length (text_from table n) + 1 else 0

-- the bytes of the first n values, each with its NUL
abbrev pub values_size : List ℕ → List ℕ → ℕ → ℕ
values_size values table zero = 0
values_size values table (suc n) = values_size values table n + value_size table (word_at (2 * n) values)

-- the names: what the table has after as many bytes as the values take
abbrev pub name_table : List ℕ → List ℕ → List ℕ
name_table values table = drop (values_size values table (count_in Legacy values)) table

-- the name at a place, in the order of booleans, numbers and strings
abbrev pub name_in : List ℕ → List ℕ → ℕ → List ℕ
name_in names table i = text_from table (word_at (2 * i) names)

-- what the capability at a place has, absent if it is cancelled
abbrev pub value_in : Format → Parts → ℕ → Option Content
value_in format p i =
    if nat_lt i (length p.flags) then stored_flag (slice_index p.flags i)
    else (if nat_lt i (length p.flags + count_in format p.numbers) then stored_number format (number_at format (width format * (i - length p.flags)) p.numbers)
    else stored_text p.table (word_at (2 * (i - (length p.flags + count_in format p.numbers))) p.values))

-- a name, and what it has: nothing if it is absent or cancelled
abbrev pub ReadRow : Type 0
ReadRow = List ℕ × Option Content

-- each name with what it has, in the order of booleans, numbers and strings
abbrev pub rows_in : Format → Parts → List ReadRow
rows_in format p = map (λ i. (name_in p.names (name_table p.values p.table) i, value_in format p i)) (range_with_len 0 (count_in Legacy p.names))

-- what the first row of a name that is present has, if one is
abbrev pub said : List ReadRow → List ℕ → Option Content
said [] name = None
said (r ∷ rs) name = if bytes_eq r.0 name then option_or r.1 (said rs name) else said rs name

-- ---- which bytes are an extension (own)

-- the offsets lead to user-defined names, each of which begins where the one before it ends, and
-- the names of a kind rise; the second and the third kind begin at these places
pub record AreNames (second third : ℕ) (names table : List ℕ) : Type 0 where
  pub plain : (k : ℕ) → k < count_in Legacy names → word_at (2 * k) names < first_negative Legacy
  pub ended : (k : ℕ) → k < count_in Legacy names → HasEnd table (word_at (2 * k) names)
  pub user_defined : (k : ℕ) → k < count_in Legacy names → IsTrue (is_user_defined_name (name_in names table k))
  pub adjoin : (k : ℕ) → suc k < count_in Legacy names → word_at (2 * suc k) names ≡ word_at (2 * k) names + length (name_in names table k) + 1
  pub rise : (k : ℕ) → suc k < count_in Legacy names → suc k ≢ second → suc k ≢ third
      → IsTrue (is_lt (slice_cmp nat_cmp (name_in names table k) (name_in names table (suc k))))

-- the bytes after an entry are an extension: as long as its header says, with sound sections
pub record IsExtension (format : Format) (rest : List ℕ) : Type 0 where
  pub long : header_size ≤ length rest
  pub few_names : name_count rest < first_negative Legacy
  pub table_fits : table_size rest < first_negative Legacy
  pub whole : table_end format rest ≤ length rest
  pub flags : AreFlags (parts_in format rest).flags
  pub numbers : AreStoredNumbers format (parts_in format rest).numbers
  pub values : AreOffsets (parts_in format rest).values (parts_in format rest).table
  pub names : AreNames (flag_count rest) (flag_count rest + number_count rest) (parts_in format rest).names
      (name_table (parts_in format rest).values (parts_in format rest).table)

-- ---- after an entry

-- what follows an entry, from an even offset on
abbrev pub after_entry : List ℕ → List ℕ
after_entry bytes = drop (entry_end bytes + entry_end bytes % 2) bytes

-- the rows of the extension that follows an entry: none where fewer bytes follow than its header has
abbrev pub rows_after : List ℕ → List ReadRow
rows_after bytes = if nat_lt (length (after_entry bytes)) header_size then [] else rows_in (format_in bytes) (parts_in (format_in bytes) (after_entry bytes))

-- what follows the entry is too short for an extension, or is one
abbrev pub EndsWell : List ℕ → Type 0
EndsWell bytes = header_size ≤ length (after_entry bytes) → IsExtension (format_in bytes) (after_entry bytes)

-- why bytes are refused: the entry's own refusals first
abbrev pub FailsToRead : List ℕ → ExtensionError → Type 0
FailsToRead bytes (errors.Entry e) = entry.FailsToRead bytes e
FailsToRead bytes errors.BadExtension = ((names : List ℕ) × (contents : Contents) × entry.Reads bytes names contents) × ¬ EndsWell bytes
