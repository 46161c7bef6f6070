-- What is known of a text by its bytes alone (own).
use Rattle.std.specs.Prelude.{◌≢◌, ℕ, ◌<◌, Bool, true, false, List, [], ◌∷◌, All}
use Rattle.ti_text.specs.Ascii as ascii

-- no byte is a NUL, which ends a text in an entry
abbrev pub HasNoNul : List ℕ → Type 0
HasNoNul text = All (λ byte. byte ≢ ascii.nul) text

-- each number is a byte
abbrev pub AreBytes : List ℕ → Type 0
AreBytes text = All (λ byte. byte < 256) text

-- whether a text has no byte
abbrev pub is_empty : List ℕ → Bool
is_empty [] = true
is_empty (x ∷ xs) = false

-- the last byte of a text, or `before` if it is empty
abbrev pub last_byte : ℕ → List ℕ → ℕ
last_byte before [] = before
last_byte before (x ∷ xs) = last_byte x xs
