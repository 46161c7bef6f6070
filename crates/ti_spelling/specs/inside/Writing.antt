-- Which bytes need no look at the tables when a value is written (own).
use Rattle.std.specs.Prelude.{ℕ, ◌==◌, Bool, ◌&&◌, not, nat_lt}
use Rattle.ti_text.specs.Ascii as ascii

-- printable, and none of the bytes that are written with a backslash
abbrev pub is_plain : ℕ → Bool
is_plain byte = nat_lt ascii.space byte && nat_lt byte ascii.delete && not (byte == ascii.comma) && not (byte == ascii.backslash) && not (byte == ascii.caret)
