-- Whether a byte begins a character (own).
use Rattle.std.specs.Prelude.{ℕ, ◌==◌, ◌&&◌, nat_lt, not, Bool}
use Rattle.ti_text.specs.Ascii as ascii
use Rattle.source_places.specs.Position.{units}

-- whether a byte begins a character after another byte: it is none within one, nor the LF of a
-- CR LF
abbrev pub begins_character : (before byte : ℕ) → Bool
begins_character before byte = nat_lt 0 (units byte) && not (before == ascii.carriage_return && byte == ascii.newline)
