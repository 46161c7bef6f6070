-- The lines of a text (own), without their ends.
use Rattle.std.specs.Prelude.{ℕ, suc, ◌+◌, List, [], ◌∷◌, drop, if◌then◌else◌}
use Rattle.ti_text.specs.WhiteSpace.{is_white_space}
use Rattle.source_places.specs.Position.{ends_line, line_start, units}

-- the first line of a text
abbrev pub until_end : List ℕ → List ℕ
until_end [] = []
until_end (byte ∷ bytes) = if ends_line (byte ∷ bytes) then [] else byte ∷ until_end bytes

-- the line of that number, from 0; empty if there is none
abbrev pub line_of : List ℕ → ℕ → List ℕ
line_of text line = until_end (drop (line_start text line) text)

-- how many bytes of white space begin a line
abbrev pub indent : List ℕ → ℕ
indent [] = 0
indent (byte ∷ bytes) = if is_white_space byte then suc (indent bytes) else 0

-- how many UTF-16 units a line has
abbrev pub width : List ℕ → ℕ
width [] = 0
width (byte ∷ bytes) = units byte + width bytes
