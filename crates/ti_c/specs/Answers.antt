-- What a call says of the bytes that it wrote (own).
use Rattle.std.specs.Prelude.{◌≡◌, ◌++◌, ℕ, List, drop, length}

-- the bytes are at the front of the room, and what followed them is as it was
abbrev pub IsWritten : List ℕ → List ℕ → List ℕ → Type 0
IsWritten bytes before after = after ≡ bytes ++ drop (length bytes) before
