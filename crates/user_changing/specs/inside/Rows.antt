-- Where a user-defined capability is put among others (own).
use Rattle.std.specs.Prelude.{ℕ, ◌<◌, ◌≤◌, ◌≢◌, IsTrue, List, length, slice_index_or, All}
use Rattle.user_extension.specs.UserDefined.{Row, comes_before}

-- one comes before the other
abbrev pub IsBefore : Row → Row → Type 0
IsBefore u v = IsTrue (comes_before u v)

-- no row has the name
abbrev pub IsNew : List ℕ → List Row → Type 0
IsNew name rows = All (λ u. u.0 ≢ name) rows

-- the row belongs at i
pub record IsGapFor (rows : List Row) (row : Row) (i : ℕ) : Type 0 where
  pub within : i ≤ length rows
  pub before : (j : ℕ) (d : Row) → j < i → IsBefore (slice_index_or rows j d) row
  pub after : (j : ℕ) (d : Row) → i ≤ j → j < length rows → IsBefore row (slice_index_or rows j d)
