-- Head lines (terminfo(5); X/Open Curses Issue 7, "Terminfo Source Format"): lines that are not
-- empty and begin with neither white space nor `#`.
use Rattle.ti_text.specs.Ascii as ascii
use Rattle.std.specs.Prelude.{ℕ, Bool, not, ◌||◌, ◌&&◌, ◌==◌}
use Rattle.ti_text.specs.WhiteSpace.{is_white_space}

-- a byte that may begin a head line: not white space, not `#`, and not a newline, which would make
-- the line empty
abbrev pub begins_head : ℕ → Bool
begins_head b = not (is_white_space b || b == ascii.number_sign || b == ascii.newline)

-- whether a head line begins at the byte `b`, with `before` just before it; before a source comes a
-- newline
abbrev pub is_head : ℕ → ℕ → Bool
is_head before b = before == ascii.newline && begins_head b
