-- White space of the source format (X/Open Curses Issue 7, "Terminfo Source Format"): spaces and
-- tabs alone. A carriage return is not white space (own).
use Rattle.std.specs.Prelude.{ℕ, Bool, ◌||◌, ◌==◌}
use Rattle.ti_text.specs.Ascii as ascii

-- a space or a tab
abbrev pub is_white_space : ℕ → Bool
is_white_space b = b == ascii.space || b == ascii.tab
