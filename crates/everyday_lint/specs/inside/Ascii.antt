-- Bytes that are characters.
use Rattle.std.specs.Prelude.{ℕ, Bool, nat_lt}

-- whether a byte is a character of ASCII
abbrev pub is_character : ℕ → Bool
is_character byte = nat_lt byte 128
