-- What is read at the front of a text, with the rest of it (own).
use Rattle.std.specs.Prelude.{ℕ, List, Option, option_map}
use Rattle.std.specs.Borrow.{Bor}

-- what was read, if something was, and the bytes after it
abbrev pub with_rest : {X : Type 0} → Option (X × Bor (List ℕ)) → Option (X × List ℕ)
with_rest found = option_map (λ it. (it.0, it.1.now)) found
