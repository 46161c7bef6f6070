-- The order of the rows of all directories (toe(1), `-s`).
use Rattle.std.specs.Prelude.{◌≡◌, ℕ, ◌+◌, List, [], ◌∷◌, map, slice_get, Option, Some, None}
use Rattle.std.specs.Borrow.{Bor}
use Rattle.std.specs.List.Sorted.{IsPermutation, IsSorted}
use Rattle.std.specs.Ordering.{nat_cmp, ordering_then}
use Rattle.std.specs.Cmp.Lexicographic.{slice_cmp}
use Rattle.std.specs.declared.cmp.Ordering.{Ordering}
use Rattle.everyday_toe.specs.Placed.{Placed}

-- the name of a row, and its number among all
abbrev pub Key : Type 0
Key = List ℕ × ℕ

-- the same, wherever the name is in memory
abbrev pub Held : Type 0
Held = Bor (List ℕ) × ℕ

-- such a key, as plain data
abbrev pub key_of : Held → Key
key_of key = (key.0.now, key.1)

-- the keys of rows, of which the first has that number
abbrev pub numbered_from : ℕ → List Placed → List Key
numbered_from number [] = []
numbered_from number (p ∷ ps) = (p.line.name, number) ∷ numbered_from (number + 1) ps

-- one key compared with another: by the names, byte by byte, and then by the numbers
abbrev pub key_cmp : Held → Held → Ordering
key_cmp one other = ordering_then (slice_cmp nat_cmp one.0.now other.0.now) (nat_cmp one.1 other.1)

-- the keys of the rows, sorted by their names; those of one name in the order in which they are
pub record IsOrder (rows : List Placed) (keys : List Held) : Type 0 where
  pub same : IsPermutation (numbered_from 0 rows) (map key_of keys)
  pub rises : IsSorted key_cmp keys

-- a row, if there is one, and then others
abbrev pub before_others : {X : Type 0} → Option X → List X → List X
before_others None others = others
before_others (Some row) others = row ∷ others

-- the rows of these numbers
abbrev pub picked : {X : Type 0} → List X → List ℕ → List X
picked rows [] = []
picked rows (number ∷ numbers) = before_others (slice_get rows number) (picked rows numbers)

-- the numbers of keys
abbrev pub numbers_of : List Held → List ℕ
numbers_of keys = map (λ key. key.1) keys

-- the rows, sorted by their names; those of one name in the order in which they are
abbrev pub Sorts : List Placed → List Placed → Type 0
Sorts rows sorted = (keys : List Held) × IsOrder rows keys × (sorted ≡ picked rows (numbers_of keys))
