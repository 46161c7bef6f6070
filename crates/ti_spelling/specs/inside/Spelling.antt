-- What a text spells, computed, and the law that joins this to the relations of `Spelling` (own).
--   unescape_result raw  what the text spells, `Ok (bytes, odd)`, or its first fault
-- The law: UnescapedAgrees.
use Rattle.std.specs.Prelude.{◌≡◌, ℕ, zero, suc, ◌+◌, ◌-◌, ◌==◌, Bool, true, false, not, ◌&&◌, ◌||◌, ◌↔◌, if◌then◌else◌, nat_le, List, [], ◌∷◌, length}
use Rattle.std.specs.Prelude.{bit_and}
use Rattle.std.specs.Prelude.{Option, Some, None, Result, Ok, Err}
use Rattle.ti_text.specs.Ascii as ascii
use Rattle.ti_spelling.specs.declared.spelling.UnescapeError.{UnescapeError}
use Rattle.ti_spelling.specs.declared.spelling.UnescapeError.TheVariants.{BadOctal, BadControl, BadByte}
use Rattle.ti_spelling.specs.declared.spelling.Piece.{Piece}
use Rattle.ti_spelling.specs.Spelling.{Fails, Spells, is_octal_digit, is_percent, named_escape, not_nul, octal_digits, octal_value}
use Rattle.std.specs.Prelude.{◌≡◌, ℕ, ◌<◌, Bool, false, ◌||◌, List, [], ◌++◌, length, Option, Some, None, Result, Ok, Err}
use Rattle.ti_spelling.specs.declared.spelling.Pieces.{Pieces}

-- the piece of a backslash and these octal digits
abbrev pub octal_piece : List ℕ → Result Piece UnescapeError
octal_piece digits =
    if nat_le (octal_value digits) 255
    then Ok (record { size = length digits + 1; byte = not_nul (octal_value digits); odd = false })
    else Err BadOctal

-- the piece of a backslash and a letter without a name, before xs
abbrev pub unnamed_piece : ℕ → List ℕ → Result Piece UnescapeError
unnamed_piece x xs = if is_octal_digit x then octal_piece (octal_digits (x ∷ xs))
    else (if x == ascii.nul then Err BadByte else Ok (record { size = 2; byte = x; odd = true }))

-- the piece of a backslash and a letter, by the byte that its name has
abbrev pub named_piece : Option ℕ → Result Piece UnescapeError → Result Piece UnescapeError
named_piece (Some byte) unnamed = Ok (record { size = 2; byte = byte; odd = false })
named_piece None unnamed = unnamed

-- the piece of a backslash and the front of what follows it
unfoldable pub escape_piece : List ℕ → Result Piece UnescapeError
escape_piece [] = Ok (record { size = 1; byte = ascii.backslash; odd = true })
escape_piece (x ∷ xs) = named_piece (named_escape x) (unnamed_piece x xs)

-- 0x20 to 0x7E, except the comma
abbrev pub is_control_letter : ℕ → Bool
is_control_letter x = nat_le ascii.space x && (nat_le x ascii.tilde && not (x == ascii.comma))

-- the piece of a `^` and the front of what follows it
unfoldable pub control_piece : List ℕ → Result Piece UnescapeError
control_piece [] = Err BadControl
control_piece (x ∷ xs) = if x == ascii.question_mark then Ok (record { size = 2; byte = ascii.delete; odd = false })
    else (if is_control_letter x then Ok (record { size = 2; byte = not_nul (bit_and x 31); odd = false }) else Err BadControl)

-- the piece at the front of a text that isn't empty
unfoldable pub first_piece : (percent : Bool) (text : List ℕ) → Result Piece UnescapeError
first_piece percent [] = Err BadByte
first_piece percent (x ∷ xs) = if x == ascii.backslash then escape_piece xs
    else (if x == ascii.caret then (if percent then Ok (record { size = 1; byte = ascii.caret; odd = false }) else control_piece xs)
    else (if x == ascii.nul then Err BadByte else Ok (record { size = 1; byte = x; odd = false })))

-- whether a byte spells itself, whatever is around it
abbrev pub is_literal : ℕ → Bool
is_literal x = not (x == ascii.backslash || x == ascii.caret || x == ascii.nul)

-- a piece, and then what the rest spells
abbrev pub with_piece : Piece → Result (List ℕ × Bool) UnescapeError → Result (List ℕ × Bool) UnescapeError
with_piece piece (Ok later) = Ok (piece.byte ∷ later.0, piece.odd || later.1)
with_piece piece (Err cause) = Err cause

-- the first piece, and then what comes later; a fault in the piece comes before later ones
abbrev pub then_later : Result Piece UnescapeError → (Piece → Result (List ℕ × Bool) UnescapeError) → Result (List ℕ × Bool) UnescapeError
then_later (Ok piece) later = with_piece piece (later piece)
then_later (Err cause) later = Err cause

-- what a text spells after the byte `before`, if its first `left` bytes belong to a piece that was
-- read
unfoldable pub unescaped_from : (left before : ℕ) (text : List ℕ) → Result (List ℕ × Bool) UnescapeError
unescaped_from left before [] = Ok ([], false)
unescaped_from zero before (x ∷ xs) = then_later (first_piece (is_percent before) (x ∷ xs)) (λ piece. unescaped_from (piece.size - 1) x xs)
unescaped_from (suc left) before (x ∷ xs) = unescaped_from left x xs

-- the bytes that the whole text spells, and whether an escape is odd; or its first fault
unfoldable pub unescape_result : List ℕ → Result (List ℕ × Bool) UnescapeError
unescape_result raw = unescaped_from 0 0 raw

-- what is computed is what the relations say
pub record IsUnescapeComputed (raw : List ℕ) : Type 0 where
  pub spelled : (value : List ℕ) (odd : Bool) → Spells raw value odd ↔ (unescape_result raw ≡ Ok (value, odd))
  pub refused : (cause : UnescapeError) → Fails raw cause ↔ (unescape_result raw ≡ Err cause)

-- the value that a text spells, or its first fault, is exactly what `unescape_result` gives
abbrev pub UnescapedAgrees : Type 0
UnescapedAgrees = (raw : List ℕ) → IsUnescapeComputed raw

-- what is still to be read spells this
abbrev pub left_of : Pieces → Result (List ℕ × Bool) UnescapeError
left_of pieces = unescaped_from 0 pieces.before pieces.rest.now

-- the first piece is taken, or there is none, or a refusal is there
abbrev pub TakesPiece : (old : Pieces) → Result (Option Piece) UnescapeError → (new : Pieces) → Type 0
TakesPiece old (Ok (Some piece)) new = (left_of old ≡ with_piece piece (left_of new)) × (length new.rest.now < length old.rest.now)
TakesPiece old (Ok None) new = left_of old ≡ Ok ([], false)
TakesPiece old (Err cause) new = left_of old ≡ Err cause

-- what was read so far, before what the rest spells
abbrev pub with_front : (front : List ℕ) (odd : Bool) → Result (List ℕ × Bool) UnescapeError → Result (List ℕ × Bool) UnescapeError
with_front front odd (Ok later) = Ok (front ++ later.0, odd || later.1)
with_front front odd (Err cause) = Err cause
