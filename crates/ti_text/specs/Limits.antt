-- The limits of the product. Those of an entry are those of the formats of term(5). The others are
-- own.
use Rattle.std.specs.Prelude.{ℕ}

-- the most bytes of a block of source
abbrev pub block_bytes_max : ℕ
block_bytes_max = 1048576

-- the most blocks of a source
abbrev pub blocks_max : ℕ
blocks_max = 65535

-- the most bytes of a names field; an entry has one more, its NUL (term(5) allows 128)
abbrev pub names_max : ℕ
names_max = 127

-- the most bytes of an entry in the legacy storage format
abbrev pub entry_max : ℕ
entry_max = 4096

-- the most bytes of an entry in the extended number format
abbrev pub extended_entry_max : ℕ
extended_entry_max = 32768

-- the greatest number that the legacy storage format has room for
abbrev pub legacy_number_max : ℕ
legacy_number_max = 32767

-- the greatest number that the extended number format has room for
abbrev pub number_max : ℕ
number_max = 2147483647

-- how many numbers two bytes have room for (own)
abbrev pub two_byte_count : ℕ
two_byte_count = 65536

-- the most parameters of a format, `%p1` to `%p9` (terminfo(5), "Parameterized Strings")
abbrev pub parameters_max : ℕ
parameters_max = 9
