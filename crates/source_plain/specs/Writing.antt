-- A text in the place of a source (own, as rustfmt keeps line ends): with the byte order mark and the
-- line ends that the source has.
use Rattle.std.specs.Prelude.{ℕ, ◌==◌, ◌&&◌, ◌||◌, not, Bool, false, if◌then◌else◌, List, [], ◌∷◌, ◌++◌}
use Rattle.ti_text.specs.Ascii as ascii
use Rattle.source_plain.specs.Reading.{has_mark, is_return_at, mark}

-- a text with each of its lines ended by CR LF
abbrev pub with_returns : List ℕ → List ℕ
with_returns [] = []
with_returns (byte ∷ text) = if byte == ascii.newline then ascii.carriage_return ∷ ascii.newline ∷ with_returns text else byte ∷ with_returns text

-- whether a line of a text ends in CR LF
abbrev pub has_return : List ℕ → Bool
has_return [] = false
has_return (byte ∷ text) = is_return_at (byte ∷ text) || has_return text

-- whether the first line of a text ends in CR LF
abbrev pub first_returns : List ℕ → Bool
first_returns [] = false
first_returns (byte ∷ text) = is_return_at (byte ∷ text) || (not (byte == ascii.newline) && first_returns text)

-- a mark, if there is to be one
abbrev pub mark_if : Bool → List ℕ
mark_if marked = if marked then mark else []

-- a text, with CR LF at the end of each line if it is wanted
abbrev pub returns_if : Bool → List ℕ → List ℕ
returns_if returns text = if returns then with_returns text else text

-- a text in the place of a source, whose lines end as they are: with a mark in front if the source has
-- one
abbrev pub marked_like : List ℕ → List ℕ → List ℕ
marked_like source text = mark_if (has_mark source) ++ text

-- A text in the place of a source. It has a mark in front if the source has one, and each of its lines
-- ends in CR LF if the first line of the source does. A text that would be read as another one without
-- them has them too: one that begins with a mark itself, or of which a line ends in CR LF.
abbrev pub written_like : List ℕ → List ℕ → List ℕ
written_like source text = mark_if (has_mark source || has_mark text) ++ returns_if (first_returns source || has_return text) text
