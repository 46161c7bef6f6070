-- The layout of a compiled entry (term(5), "Legacy storage format" and "Extended number format"):
-- six numbers, and then the sections whose sizes they give. The two formats differ in the first
-- number and in the bytes that the number of a capability takes.
use Rattle.ti_text.specs.Ascii as ascii
use Rattle.ti_text.specs.Limits.{entry_max, extended_entry_max, legacy_number_max, number_max, two_byte_count}
use Rattle.std.specs.Prelude.{ℕ, suc, ◌<◌, ◌+◌, ◌*◌, ◌/◌, ◌%◌, List, [], ◌∷◌, ◌++◌, length}
use Rattle.ti_layout.specs.declared.layout.Format.{Format}
use Rattle.ti_layout.specs.declared.layout.Format.TheVariants.{Legacy, Extended}

-- two bytes can hold the number, as each number of the header
abbrev pub FitsTwoBytes : ℕ → Type 0
FitsTwoBytes number = number < two_byte_count

-- ---- the two formats

-- the first number of an entry: 0432 and 01036 octal
abbrev pub magic : Format → ℕ
magic Legacy = 282
magic Extended = 542

-- how many bytes the number of a capability takes
abbrev pub width : Format → ℕ
width Legacy = 2
width Extended = 4

-- the first number that is negative as a signed number
abbrev pub first_negative : Format → ℕ
first_negative Legacy = legacy_number_max + 1
first_negative Extended = number_max + 1

-- -2, which means cancelled
abbrev pub cancelled_mark : Format → ℕ
cancelled_mark Legacy = 65534
cancelled_mark Extended = 4294967294

-- -1, which means absent
abbrev pub absent_mark : Format → ℕ
absent_mark Legacy = 65535
absent_mark Extended = 4294967295

-- the most bytes of an entry (own)
abbrev pub limit : Format → ℕ
limit Legacy = entry_max
limit Extended = extended_entry_max

-- ---- numbers as bytes, the low one first

-- the bytes of a number, of which those that do not fit are dropped
abbrev pub number_bytes : Format → ℕ → List ℕ
number_bytes Legacy n = (n % 256) ∷ (n / 256 % 256) ∷ []
number_bytes Extended n = (n % 256) ∷ (n / 256 % 256) ∷ (n / 65536 % 256) ∷ (n / 16777216 % 256) ∷ []

-- the bytes of numbers, one after the other
unfoldable pub number_section : Format → List ℕ → List ℕ
number_section format [] = []
number_section format (n ∷ ns) = number_bytes format n ++ number_section format ns

-- ---- an entry in its sections

-- The names without their NUL; a byte for each boolean; the zero byte, or nothing; the numbers; the
-- offsets into the string table; the string table; what follows, which is not looked at.
pub record Sections : Type 0 where
  pub names : List ℕ
  pub flags : List ℕ
  pub gap : List ℕ
  pub numbers : List ℕ
  pub offsets : List ℕ
  pub strings : List ℕ
  pub rest : List ℕ

-- The magic number, the size of the names with their NUL, how many booleans, numbers and offsets
-- there are, and the size of the string table: two bytes each, in either format.
abbrev pub header : Format → ℕ → ℕ → ℕ → ℕ → ℕ → List ℕ
header format names flags numbers offsets strings = number_section Legacy (magic format ∷ names ∷ flags ∷ numbers ∷ offsets ∷ strings ∷ [])

-- the bytes of the header: six numbers of two bytes
abbrev pub header_size : ℕ
header_size = 12

-- the bytes of an entry with these sections: the header with their sizes, and then the sections in
-- this order
abbrev pub entry_bytes : Format → Sections → List ℕ
entry_bytes format s =
    header format (suc (length s.names)) (length s.flags) (length s.numbers) (length s.offsets) (length s.strings)
    ++ s.names ++ ascii.nul ∷ [] ++ s.flags ++ s.gap ++ number_section format s.numbers ++ number_section Legacy s.offsets ++ s.strings ++ s.rest

-- ---- where the sections begin, by the numbers of the header

-- where the booleans begin: after the header and the names, which have this size with their NUL
abbrev pub flags_offset : ℕ → ℕ
flags_offset names = header_size + names

-- how many bytes are between the booleans and the numbers, so that these begin at an even offset
abbrev pub gap_size : ℕ → ℕ → ℕ
gap_size names flags = (names + flags) % 2

-- where the numbers begin: after the booleans and the gap
abbrev pub numbers_offset : ℕ → ℕ → ℕ
numbers_offset names flags = flags_offset names + flags + gap_size names flags

-- where the offsets of the strings begin: after the numbers
abbrev pub offsets_offset : Format → ℕ → ℕ → ℕ → ℕ
offsets_offset format names flags numbers = numbers_offset names flags + width format * numbers

-- where the string table begins: after the offsets
abbrev pub strings_offset : Format → ℕ → ℕ → ℕ → ℕ → ℕ
strings_offset format names flags numbers offsets = offsets_offset format names flags numbers + 2 * offsets

-- how many bytes the entry has, without what follows
abbrev pub entry_size : Format → ℕ → ℕ → ℕ → ℕ → ℕ → ℕ
entry_size format names flags numbers offsets strings = strings_offset format names flags numbers offsets + strings
