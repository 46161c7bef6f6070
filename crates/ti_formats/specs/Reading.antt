-- A format as it is read from left to right: its tokens, up to the first `%` that begins no code
-- which may come there (own).
use Rattle.std.specs.Prelude.{◌≡◌, ℕ, List, Option, Some, None}
use Rattle.ti_formats.specs.declared.codes.Placed.{Placed}
use Rattle.ti_formats.specs.Formats.{FormatTree, IsTree, IsStuck}

-- tokens, and the place of the `%` where they stop, if they do not reach the end
pub record Scan : Type 0 where
  pub tokens : List Placed
  pub stop : Option ℕ

-- the reading of a format: all its tokens if it has a tree, else those before the place where it is
-- stuck
pub record IsReadingOf (format : List ℕ) (reading : Scan) : Type 0 where
  pub whole : (t : FormatTree) (tree : IsTree format t) → (reading.stop ≡ None) × (reading.tokens ≡ tree.tokens)
  pub stuck : (place : ℕ) (before : IsStuck format place) → (reading.stop ≡ Some place) × (reading.tokens ≡ before.tokens)

-- ---- what is left

-- what may come in an open conditional: the test, which a `%t` ends, or the part taken, which an
-- `%e` ends
pub data Phase : Type 0 where
  in_test : Phase
  in_taken : Phase

-- what is left of a format: the text from a place on, inside these open conditionals, the innermost
-- first
pub record Unread : Type 0 where
  pub place : ℕ
  pub text : List ℕ
  pub phases : List Phase
