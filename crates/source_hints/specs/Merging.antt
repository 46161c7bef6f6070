-- Hints of one text in the order in which they begin (own).
use Rattle.std.specs.Prelude.{ℕ, nat_lt, List, [], ◌∷◌, ◌++◌, if◌then◌else◌}
use Rattle.source_block_hints.specs.declared.hint.Hint.{Hint}

-- those at the front that begin before an offset
abbrev pub leading : ℕ → List Hint → List Hint
leading start [] = []
leading start (hint ∷ hints) = if nat_lt hint.start start then hint ∷ leading start hints else []

-- those after these
abbrev pub following : ℕ → List Hint → List Hint
following start [] = []
following start (hint ∷ hints) = if nat_lt hint.start start then following start hints else hint ∷ hints

-- the hints of two lists: each of the first after those of the second that begin before it
abbrev pub merged : List Hint → List Hint → List Hint
merged [] others = others
merged (hint ∷ hints) others = leading hint.start others ++ hint ∷ merged hints (following hint.start others)
