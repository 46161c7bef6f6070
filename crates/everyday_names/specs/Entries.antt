-- An entry with another names field (term(5), "Legacy storage format" and "Extended number format").
use Rattle.std.specs.Prelude.{ℕ, suc, nat_lt, if◌then◌else◌, List, [], ◌∷◌, ◌++◌, length, drop}
use Rattle.ti_text.specs.Ascii as ascii
use Rattle.ti_layout.specs.Image.{even_gap}
use Rattle.ti_layout.specs.Layout.{header, header_size}
use Rattle.ti_layout.specs.Reading.{flag_count, flags_section, format_in, number_count, numbers_begin, strings_size, text_count}

-- The header with the size of the names, the names and their NUL, the booleans, the zero byte if the
-- names and the booleans are an odd number of bytes; and all that follows, as it is.
unfoldable pub rebuilt : List ℕ → List ℕ → List ℕ
rebuilt field bytes =
    header (format_in bytes) (suc (length field)) (flag_count bytes) (number_count bytes) (text_count bytes) (strings_size bytes)
    ++ field ++ ascii.nul ∷ [] ++ flags_section bytes ++ even_gap field (flag_count bytes) ++ drop (numbers_begin bytes) bytes

-- An entry with another names field: so, if the bytes have a header.
abbrev pub with_names : List ℕ → List ℕ → List ℕ
with_names field bytes = if nat_lt (length bytes) header_size then bytes else rebuilt field bytes
