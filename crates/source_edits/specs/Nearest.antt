-- The names that are nearest to one that nothing has (own): by the Levenshtein distance, the least
-- number of bytes that are put in, taken out or exchanged.
use Rattle.std.specs.Prelude.{ℕ, ◌+◌, ◌==◌, ◌&&◌, nat_eq, nat_le, nat_lt, Bool, List, [], ◌∷◌, filter, length, take}
use Rattle.strsim.specs.Edits.{levenshtein_row}
use Rattle.ti_text.specs.Limits.{names_max}

-- how many edits lead from one name to the other
unfoldable pub distance : List ℕ → List ℕ → ℕ
distance name other = levenshtein_row nat_eq name other (length other)

-- whether another name can be so many edits away from one that has more bytes than that, and no
-- more than a names field may have: an edit changes the length by at most one
abbrev pub can_be : ℕ → List ℕ → List ℕ → Bool
can_be edits name other =
    nat_lt edits (length name) && nat_le (length name) names_max
    && nat_le (length name) (length other + edits) && nat_le (length other) (length name + edits)

-- whether another name is so many edits away
abbrev pub is_at : ℕ → List ℕ → List ℕ → Bool
is_at edits name other = can_be edits name other && distance name other == edits

-- those of some names that are so many edits away
abbrev pub names_at : ℕ → List ℕ → List (List ℕ) → List (List ℕ)
names_at edits name others = filter (is_at edits name) others

-- the first list, or the second if that is empty
abbrev pub or_else : List (List ℕ) → List (List ℕ) → List (List ℕ)
or_else [] others = others
or_else (name ∷ names) others = name ∷ names

-- those that are one edit away, or if there are none those that are two away
abbrev pub near : List ℕ → List (List ℕ) → List (List ℕ)
near name others = or_else (names_at 1 name others) (names_at 2 name others)

-- the nearest of some names: the first three of these
abbrev pub nearest : List ℕ → List (List ℕ) → List (List ℕ)
nearest name others = take 3 (near name others)
