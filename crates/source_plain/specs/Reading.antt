-- A source as other systems write it (as ncurses reads it): with a byte order mark in front, and with
-- lines that end in CR LF.
use Rattle.std.specs.Prelude.{ℕ, ◌==◌, ◌&&◌, Bool, false, if◌then◌else◌, List, [], ◌∷◌, drop}
use Rattle.ti_text.specs.Ascii as ascii

-- the byte order mark of UTF-8
abbrev pub mark : List ℕ
mark = 239 ∷ 187 ∷ 191 ∷ []

-- whether a source has the byte order mark in front
abbrev pub has_mark : List ℕ → Bool
has_mark (a ∷ b ∷ c ∷ text) = a == 239 && b == 187 && c == 191
has_mark text = false

-- a source without the byte order mark in front, if it has one
abbrev pub without_mark : List ℕ → List ℕ
without_mark source = if has_mark source then drop 3 source else source

-- whether a byte is a CR
abbrev pub is_return : ℕ → Bool
is_return byte = byte == ascii.carriage_return

-- whether a text begins with CR LF
abbrev pub is_return_at : List ℕ → Bool
is_return_at (byte ∷ next ∷ text) = byte == ascii.carriage_return && next == ascii.newline
is_return_at text = false

-- a text with each CR left out that has a newline after it
abbrev pub plain_lines : List ℕ → List ℕ
plain_lines [] = []
plain_lines (byte ∷ text) = if is_return_at (byte ∷ text) then plain_lines text else byte ∷ plain_lines text

-- a source as it is read
abbrev pub plain_source : List ℕ → List ℕ
plain_source source = plain_lines (without_mark source)
