-- Lines of a text, by their newlines (own).
use Rattle.std.specs.Prelude.{◌≡◌, ℕ, ◌+◌, ◌==◌, List, ◌++◌, count_by}
use Rattle.ti_text.specs.Ascii as ascii

-- how many newlines a text has: this is how many lines it has if the last of them is ended
abbrev pub line_count : List ℕ → ℕ
line_count text = count_by (λ byte. byte == ascii.newline) text

-- lines add up: texts joined have the lines of both
abbrev pub LinesAdd : Type 0
LinesAdd = (a b : List ℕ) → line_count (a ++ b) ≡ line_count a + line_count b
