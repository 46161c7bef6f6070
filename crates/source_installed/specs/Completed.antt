-- A source with blocks of names after it (own).
use Rattle.std.specs.Prelude.{ℕ, ◌++◌, List, codes}
use Rattle.std.specs.List.{flat_map}
use Rattle.source_blocks.specs.Places.{missing_newline}

-- a block that has nothing but a name
abbrev pub block_of : List ℕ → List ℕ
block_of name = name ++ codes ",\n"

-- a text with such a block after it for each name
abbrev pub completed : List ℕ → List (List ℕ) → List ℕ
completed text names = text ++ missing_newline text ++ flat_map block_of names
