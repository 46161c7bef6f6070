-- The ruler of `-d` (tabs(1)): a line with the list, and, if its stops are in order, a line that numbers
-- each tenth column, one that marks each stop, and one whose marks are tabbed to.
use Rattle.std.specs.Prelude.{ℕ, zero, suc, ◌+◌, ◌-◌, ◌/◌, ◌%◌, ◌==◌, ◌&&◌, nat_lt, nat_le, if◌then◌else◌, List, [], ◌∷◌, ◌++◌, codes, replicate}
use Rattle.std.specs.Prelude.{Option, Some, None}
use Rattle.ti_text.specs.Ascii as ascii

-- a dash, which stands for a column
abbrev pub dash : ℕ
dash = ascii.byte_of "-"

-- so many columns without a stop
abbrev pub dashes : ℕ → List ℕ
dashes count = replicate count dash

-- a byte, of which NUL is not printed
abbrev pub printed : ℕ → List ℕ
printed byte = if byte == 0 then [] else byte ∷ []

-- the sign that numbers a tenth column: a digit, a letter, or what comes after the letters, in a byte
abbrev pub tens_byte : ℕ → ℕ
tens_byte tens = (tens + (if nat_lt tens 10 then 48 else 55)) % 256

abbrev pub tens_sign : ℕ → List ℕ
tens_sign tens = printed (tens_byte tens)

-- the sign of each fifth column between these
abbrev pub plus_sign : ℕ
plus_sign = ascii.byte_of "+"

-- the sign of a column, counted from 0
abbrev pub scale_sign : ℕ → List ℕ
scale_sign column =
    if column % 10 == 9 then tens_sign (column / 10 + 1)
    else if column % 10 == 4 then plus_sign ∷ []
    else dash ∷ []

-- the numbered columns
unfoldable pub scale : ℕ → List ℕ
scale zero = []
scale (suc columns) = scale columns ++ scale_sign columns

-- the marks of stops after a column, up to the last one
abbrev pub marks_from : ℕ → ℕ → List ℕ → List ℕ
marks_from columns before [] = dashes (columns - before)
marks_from columns before (stop ∷ stops) =
    if nat_lt before columns && nat_le stop columns
    then dashes (stop - 1 - before) ++ ascii.byte_of "*" ∷ marks_from columns stop stops
    else dashes (columns - before)

-- a mark that is tabbed to, unless it is in the first column
abbrev pub tabbed_mark : ℕ → List ℕ
tabbed_mark stop = if stop == 1 then codes "*" else codes "\t*"

-- the marks that are tabbed to, and another sign after the last if no stop is past the columns
abbrev pub tabbed_marks : ℕ → List ℕ → List ℕ
tabbed_marks columns [] = codes "\t+"
tabbed_marks columns (stop ∷ stops) = if nat_le stop columns then tabbed_mark stop ++ tabbed_marks columns stops else []

-- the lines of the stops
abbrev pub stop_lines : ℕ → List ℕ → List ℕ → List ℕ
stop_lines columns stops newline =
    scale columns ++ newline ++ marks_from columns 0 stops ++ newline ++ tabbed_marks columns stops ++ newline

-- the lines of stops, if they are in order
abbrev pub given_lines : ℕ → Option (List ℕ) → List ℕ → List ℕ
given_lines columns None newline = []
given_lines columns (Some stops) newline = stop_lines columns stops newline

-- the ruler, for so many columns, a list, and its stops if they are in order
abbrev pub ruler_text : ℕ → List ℕ → Option (List ℕ) → List ℕ → List ℕ
ruler_text columns list stops newline = codes "tabs " ++ list ++ newline ++ given_lines columns stops newline
