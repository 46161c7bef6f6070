-- Bytes with a limit (own).
use Rattle.std.specs.Prelude.{ℕ, List}

-- what a contract sees of a buffer: its bytes, and how many it may have
pub record Bounded : Type 0 where
  pub bytes : List ℕ
  pub limit : ℕ
