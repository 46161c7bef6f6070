-- A line of a source as it is shown, with a mark below a part of it (own; as GNU's compilers do).
use Rattle.std.specs.Prelude.{ℕ, ◌-◌, ◌==◌, ◌&&◌, ◌||◌, nat_le, List, ◌∷◌, [], ◌++◌, drop, length, map, min, replicate, take, if◌then◌else◌}
use Rattle.ti_text.specs.Ascii as ascii

-- the most bytes of a line that are shown
abbrev pub excerpt_max : ℕ
excerpt_max = 160

-- what of a line is shown if the mark begins at that offset: the line, or of a longer one what is from
-- the mark on
abbrev pub excerpt_text : List ℕ → ℕ → List ℕ
excerpt_text line offset = if nat_le (length line) excerpt_max then line else take excerpt_max (drop offset line)

-- where in it the mark begins
abbrev pub excerpt_at : List ℕ → ℕ → ℕ
excerpt_at line offset = if nat_le (length line) excerpt_max then offset else 0

-- a byte as it is shown: a tab as it is, and `?` for another that does not print
abbrev pub shown_byte : ℕ → ℕ
shown_byte byte = if byte == ascii.tab || (nat_le ascii.space byte && nat_le byte ascii.tilde) then byte else ascii.question_mark

-- what stands below a byte before the mark: a tab is as wide as a tab
abbrev pub below_byte : ℕ → ℕ
below_byte byte = if byte == ascii.tab then ascii.tab else ascii.space

-- the line as it is shown
abbrev pub excerpt : List ℕ → ℕ → List ℕ
excerpt line offset = map shown_byte (excerpt_text line offset) ++ ascii.newline ∷ []

-- what is before the mark in the line below it
abbrev pub indent : List ℕ → ℕ → List ℕ
indent line offset = map below_byte (take (excerpt_at line offset) (excerpt_text line offset))

-- a mark below some bytes
abbrev pub mark : ℕ → List ℕ
mark size = ascii.caret ∷ replicate (size - 1) ascii.tilde

-- how many bytes of a shown text a mark is below that begins there
abbrev pub mark_size : List ℕ → ℕ → ℕ → ℕ
mark_size text at size = min size (length text - at)

-- the mark below that many bytes of the line, as far as they are shown
abbrev pub mark_of : List ℕ → ℕ → ℕ → List ℕ
mark_of line offset size = mark (mark_size (excerpt_text line offset) (excerpt_at line offset) size)
