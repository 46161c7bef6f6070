-- The blocks of a source as they are read from their texts (own), each by a rule for which of its
-- items and uses give its values.
use Rattle.std.specs.Prelude.{ℕ, List, map}
use Rattle.ti_source.specs.declared.parsing.Rule.{Rule}
use Rattle.ti_source.specs.declared.parsing.Rule.TheVariants.{Leftmost, OwnFirst}
use Rattle.ti_source.specs.Reading.{Reading}
use Rattle.ti_source.specs.Parsing.{reading_of_text}

-- a block by a rule
abbrev pub by_rule : Rule → Reading → Reading
by_rule rule block = record block { rule = rule }

-- a block as it is read from its text, by a rule
abbrev pub reading_by : Rule → List ℕ → Reading
reading_by Leftmost = reading_of_text
reading_by OwnFirst = λ text. by_rule OwnFirst (reading_of_text text)

-- the blocks of a source as they are read by a rule, from their texts
abbrev pub readings_by : Rule → List (List ℕ) → List Reading
readings_by rule texts = map (reading_by rule) texts
