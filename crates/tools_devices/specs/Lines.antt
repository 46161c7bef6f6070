-- Lines of an input: bytes up to a newline, and a last line that may have none (own).
use Rattle.ti_text.specs.Ascii as ascii
use Rattle.std.specs.Prelude.{◌≡◌, ◌≢◌, ℕ, ◌≤◌, List, [], ◌∷◌, ◌++◌, length}
use Rattle.std.specs.List.{flat_map, AllByRecursion}

-- a line with its newline
abbrev pub with_newline : List ℕ → List ℕ
with_newline line = line ++ ascii.newline ∷ []

-- the bytes hold no newline
abbrev pub IsOneLine : List ℕ → Type 0
IsOneLine [] = Unit {0}
IsOneLine (byte ∷ bytes) = (byte ≢ ascii.newline) × IsOneLine bytes

-- a line, counted without its newline, is within a limit
abbrev pub IsWithin : ℕ → List ℕ → Type 0
IsWithin limit line = length line ≤ limit

-- the bytes are these lines, each with its newline, and then a line that has none yet
pub record Splits (bytes : List ℕ) (lines : List (List ℕ)) (rest : List ℕ) : Type 0 where
  pub whole : bytes ≡ flat_map with_newline lines ++ rest
  pub each : AllByRecursion IsOneLine lines
  pub partial : IsOneLine rest

-- of the bytes these lines are complete, each within the limit, and this is the front of a further
-- line
pub record HasLines (limit : ℕ) (taken : List ℕ) (lines : List (List ℕ)) (line : List ℕ) : Type 0 where
  pub split : Splits taken lines line
  pub short : AllByRecursion (IsWithin limit) lines

-- a last line without newline counts, unless it is empty
abbrev pub with_last : List (List ℕ) → List ℕ → List (List ℕ)
with_last lines [] = lines
with_last lines (byte ∷ rest) = lines ++ (byte ∷ rest) ∷ []

-- bytes are cut into lines in only one way
abbrev pub OneSplit : Type 0
OneSplit = (bytes : List ℕ) (lines others : List (List ℕ)) (rest other : List ℕ) → Splits bytes lines rest → Splits bytes others other
    → (lines ≡ others) × (rest ≡ other)
