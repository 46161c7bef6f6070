-- How a string value is spelled in terminfo source: the escapes of X/Open Curses Issue 7, "Terminfo
-- Source Format", and of terminfo(5), and own choices if these say nothing (an unknown escape, a
-- lone backslash at the end, a `^` just after a `%`). `inside/Spelling` has the computed form.
--   Spells, Fails       what a text spells, and its first fault: a constructor for each row of the
--                       manual's table
--   written value       the text that `escape` writes
--   OneOutcome          a law: a text spells one value or has one first fault
--   WrittenSpells       a law: the text that `escape` writes spells the value
use Rattle.std.specs.Prelude.{◌≡◌, ◌≢◌, ℕ, zero, suc, ◌+◌, ◌-◌, ◌*◌, ◌/◌, ◌%◌, ◌<◌, ◌≤◌, ◌==◌, Bool, true, false, ◌&&◌, ◌||◌, ◌⊎◌, if◌then◌else◌, nat_le}
use Rattle.std.specs.Prelude.{nat_lt, List, [], ◌∷◌, ◌++◌, bit_and}
use Rattle.std.specs.Prelude.{length, Option, Some, None, Result, Ok, Err}
use Rattle.std.specs.Map.{lookup}
use Rattle.ti_text.specs.Ascii.{byte_of}
use Rattle.ti_text.specs.Ascii as ascii
pub use Rattle.ti_text.specs.Texts.{HasNoNul, AreBytes, is_empty, last_byte}
use Rattle.ti_spelling.specs.declared.spelling.UnescapeError.{UnescapeError}
use Rattle.ti_spelling.specs.declared.spelling.UnescapeError.TheVariants.{BadOctal, BadControl, BadByte, Memory}

-- ---- the rows of the table

-- each letter that terminfo(5) names after a backslash, and its byte
abbrev pub named_escapes : List (ℕ × ℕ)
named_escapes =
    (byte_of "E", ascii.escape) ∷ (byte_of "e", ascii.escape) ∷ (byte_of "n", ascii.newline) ∷ (byte_of "l", ascii.newline)
    ∷ (byte_of "r", ascii.carriage_return) ∷ (byte_of "t", ascii.tab) ∷ (byte_of "b", ascii.backspace) ∷ (byte_of "f", ascii.form_feed)
    ∷ (byte_of "s", ascii.space) ∷ (byte_of "a", ascii.bell)
    ∷ (ascii.caret, ascii.caret) ∷ (ascii.backslash, ascii.backslash) ∷ (ascii.comma, ascii.comma) ∷ (ascii.colon, ascii.colon) ∷ []

-- the byte of a letter after a backslash, if it has a name
abbrev pub named_escape : ℕ → Option ℕ
named_escape letter = lookup (λ row. row == letter) named_escapes

-- `0` to `7`
abbrev pub is_octal_digit : ℕ → Bool
is_octal_digit x = nat_le ascii.digit_0 x && nat_le x (byte_of "7")

-- the octal digits at the front, at most the given number of them
abbrev pub octal_digits_up_to : ℕ → List ℕ → List ℕ
octal_digits_up_to zero xs = []
octal_digits_up_to (suc n) [] = []
octal_digits_up_to (suc n) (x ∷ xs) = if is_octal_digit x then x ∷ octal_digits_up_to n xs else []

-- terminfo(5): after a backslash, octal digits give a byte; as many are taken as there are, at most
-- three
abbrev pub octal_digits : List ℕ → List ℕ
octal_digits text = octal_digits_up_to 3 text

-- the value of more digits after digits of this value
abbrev pub octal_value_from : ℕ → List ℕ → ℕ
octal_value_from value [] = value
octal_value_from value (x ∷ xs) = octal_value_from (value * 8 + (x - ascii.digit_0)) xs

-- the value of octal digits, 0 if there are none
abbrev pub octal_value : List ℕ → ℕ
octal_value digits = octal_value_from 0 digits

-- terminfo(5): a string can't hold a NUL; 0200 takes its place, which most terminals read as a NUL
abbrev pub not_nul : ℕ → ℕ
not_nul byte = if byte == ascii.nul then ascii.in_place_of_nul else byte

-- whether a byte is a `%`, after which a `^` is literal (own), so that the operator `%^` stays as
-- it is
abbrev pub is_percent : ℕ → Bool
is_percent before = before == ascii.percent

-- `text`, with `rest` after it, follows a backslash, and spells `byte`: a named letter or octal
-- digits; or (own, odd) any other byte but a NUL, which spells itself, or nothing at all
pub data IsEscape : (text rest : List ℕ) (byte : ℕ) (odd : Bool) → Type 0 where
  escape_named : {letter byte : ℕ} {rest : List ℕ} → named_escape letter ≡ Some byte → IsEscape (letter ∷ []) rest byte false
  escape_octal : {digit : ℕ} {digits rest : List ℕ} → octal_digits (digit ∷ (digits ++ rest)) ≡ digit ∷ digits → octal_value (digit ∷ digits) ≤ 255
      → IsEscape (digit ∷ digits) rest (not_nul (octal_value (digit ∷ digits))) false
  escape_unknown : {x : ℕ} {rest : List ℕ} → named_escape x ≡ None → is_octal_digit x ≡ false → x ≢ ascii.nul → IsEscape (x ∷ []) rest x true
  escape_missing : IsEscape [] [] ascii.backslash true

-- `x` follows a `^` that takes it, and spells `byte`: terminfo(5)'s control-x, and `^?`, which is
-- DEL; a comma ends the string, and is not taken
pub data IsControl : (x byte : ℕ) → Type 0 where
  control_delete : IsControl ascii.question_mark ascii.delete
  control_masked : {x : ℕ} → ascii.space ≤ x → x ≤ ascii.tilde → x ≢ ascii.comma → x ≢ ascii.question_mark → IsControl x (not_nul (bit_and x 31))

-- `text`, between the byte `before` and `rest`, is one piece, and spells `byte`
pub data IsPiece : (before : ℕ) (text rest : List ℕ) (byte : ℕ) (odd : Bool) → Type 0 where
  piece_escape : {before : ℕ} {text rest : List ℕ} {byte : ℕ} {odd : Bool} → IsEscape text rest byte odd → IsPiece before (ascii.backslash ∷ text) rest byte odd
  piece_control : {before x byte : ℕ} {rest : List ℕ} → is_percent before ≡ false → IsControl x byte → IsPiece before (ascii.caret ∷ x ∷ []) rest byte false
  piece_caret : {before : ℕ} {rest : List ℕ} → is_percent before ≡ true → IsPiece before (ascii.caret ∷ []) rest ascii.caret false
  piece_plain : {before x : ℕ} {rest : List ℕ} → x ≢ ascii.backslash → x ≢ ascii.caret → x ≢ ascii.nul → IsPiece before (x ∷ []) rest x false

-- `raw`, after the byte `before`, begins with the text of a refusal: an octal value over 255, a `^`
-- that takes nothing, or a NUL, plain or after a backslash
pub data IsRefused : (before : ℕ) (raw : List ℕ) (cause : UnescapeError) → Type 0 where
  refused_octal : {before : ℕ} {rest : List ℕ} → 255 < octal_value (octal_digits rest) → IsRefused before (ascii.backslash ∷ rest) BadOctal
  refused_control : {before x : ℕ} {rest : List ℕ} → is_percent before ≡ false → ((byte : ℕ) → IsControl x byte → ⊥)
      → IsRefused before (ascii.caret ∷ x ∷ rest) BadControl
  refused_control_at_end : {before : ℕ} → is_percent before ≡ false → IsRefused before (ascii.caret ∷ []) BadControl
  refused_nul : {before : ℕ} {rest : List ℕ} → IsRefused before (ascii.nul ∷ rest) BadByte
  refused_escaped_nul : {before : ℕ} {rest : List ℕ} → IsRefused before (ascii.backslash ∷ ascii.nul ∷ rest) BadByte

-- ---- texts

-- `raw`, after the byte `before`, is pieces that spell the bytes of `value` in turn
pub data SpellsAfter : (before : ℕ) (raw value : List ℕ) (odd : Bool) → Type 0 where
  spells_nothing : {before : ℕ} → SpellsAfter before [] [] false
  spells_piece : {before byte : ℕ} {text rest value : List ℕ} {odd odd_later : Bool} → IsPiece before text rest byte odd
      → SpellsAfter (last_byte before text) rest value odd_later
      → SpellsAfter before (text ++ rest) (byte ∷ value) (odd || odd_later)

-- `raw`, after the byte `before`, is pieces, and then a rest that is refused
pub data FailsAfter : (before : ℕ) (raw : List ℕ) (cause : UnescapeError) → Type 0 where
  fails_here : {before : ℕ} {raw : List ℕ} {cause : UnescapeError} → IsRefused before raw cause → FailsAfter before raw cause
  fails_later : {before byte : ℕ} {text rest : List ℕ} {odd : Bool} {cause : UnescapeError} → IsPiece before text rest byte odd
      → FailsAfter (last_byte before text) rest cause
      → FailsAfter before (text ++ rest) cause

-- what the whole text spells; the byte before it is not `%`
abbrev pub Spells : (raw value : List ℕ) (odd : Bool) → Type 0
Spells raw value odd = SpellsAfter 0 raw value odd

-- the first fault of the whole text
abbrev pub Fails : (raw : List ℕ) (cause : UnescapeError) → Type 0
Fails raw cause = FailsAfter 0 raw cause

-- what a text gives: the bytes that it spells and whether an escape in it is odd, or its first
-- fault
abbrev pub SpellsAs : List ℕ → Result (List ℕ × Bool) UnescapeError → Type 0
SpellsAs raw (Ok found) = Spells raw found.0 found.1
SpellsAs raw (Err cause) = Fails raw cause

-- the text spells something
abbrev pub CanBeSpelled : List ℕ → Type 0
CanBeSpelled raw = (value : List ℕ) × (odd : Bool) × Spells raw value odd

-- what an error says of the text: it is the first fault in it, or `Memory`, which comes only if the
-- text has no fault
abbrev pub IsCauseOf : UnescapeError → List ℕ → Type 0
IsCauseOf Memory raw = CanBeSpelled raw
IsCauseOf cause raw = Fails raw cause

-- ---- writing (own: terminfo(5) leaves open which of several spellings is chosen)

-- each byte with a letter after a backslash, and that letter
abbrev pub short_escapes : List (ℕ × ℕ)
short_escapes =
    (ascii.escape, byte_of "E") ∷ (ascii.newline, byte_of "n") ∷ (ascii.carriage_return, byte_of "r") ∷ (ascii.tab, byte_of "t")
    ∷ (ascii.backspace, byte_of "b") ∷ (ascii.form_feed, byte_of "f") ∷ (ascii.comma, ascii.comma) ∷ (ascii.backslash, ascii.backslash)
    ∷ (ascii.nul, ascii.digit_0) ∷ []

-- the letter of a byte, if it has one
abbrev pub short_escape : ℕ → Option ℕ
short_escape byte = lookup (λ row. row == byte) short_escapes

-- a backslash and three octal digits
abbrev pub octal_text : ℕ → List ℕ
octal_text byte = ascii.backslash ∷ (ascii.digit_0 + byte / 64) ∷ (ascii.digit_0 + byte / 8 % 8) ∷ (ascii.digit_0 + byte % 8) ∷ []

-- `^` and the byte plus 0x40; DEL is `^?`
abbrev pub control_text : ℕ → List ℕ
control_text byte = ascii.caret ∷ (if byte == ascii.delete then ascii.question_mark else byte + 64) ∷ []

-- just after a `%` no `^` begins a pair: it spells itself, and a byte with such a pair is written
-- in octal
abbrev pub unnamed_text : (percent edge : Bool) (byte : ℕ) → List ℕ
unnamed_text percent edge byte = if byte == ascii.space && edge then ascii.backslash ∷ byte_of "s" ∷ []
    else (if byte == ascii.caret then (if percent then ascii.caret ∷ [] else ascii.backslash ∷ ascii.caret ∷ [])
    else (if byte == ascii.file_separator || nat_le ascii.size byte then octal_text byte
    else (if nat_lt byte ascii.space || byte == ascii.delete then (if percent then octal_text byte else control_text byte)
    else byte ∷ [])))

-- the text of the letter, or of a byte without a letter
abbrev pub named_text : Option ℕ → List ℕ → List ℕ
named_text (Some letter) unnamed = ascii.backslash ∷ letter ∷ []
named_text None unnamed = unnamed

-- the text of one byte, just after a `%` or not, at an edge of the value or not
unfoldable pub byte_text : (percent edge : Bool) (byte : ℕ) → List ℕ
byte_text percent edge byte = named_text (short_escape byte) (unnamed_text percent edge byte)

-- the text of the bytes after the byte `before`; the first of them is the value's first, or not
abbrev pub written_from : (first : Bool) (before : ℕ) (value : List ℕ) → List ℕ
written_from first before [] = []
written_from first before (x ∷ xs) = byte_text (is_percent before) (first || is_empty xs) x ++ written_from false x xs

-- the text that spells the whole value
abbrev pub spelling_of : List ℕ → List ℕ
spelling_of value = written_from true 0 value

-- ---- laws

-- each text spells one value or has one first fault, and never both
pub record HasOneOutcome (raw : List ℕ) : Type 0 where
  pub some : CanBeSpelled raw ⊎ ((cause : UnescapeError) × Fails raw cause)
  pub one_value : (value other : List ℕ) (odd also_odd : Bool) → Spells raw value odd → Spells raw other also_odd → (value ≡ other) × (odd ≡ also_odd)
  pub one_cause : (cause other : UnescapeError) → Fails raw cause → Fails raw other → cause ≡ other
  pub not_both : (value : List ℕ) (odd : Bool) (cause : UnescapeError) → Spells raw value odd → Fails raw cause → ⊥

-- every text spells exactly one value or has exactly one first fault, and never both
abbrev pub OneOutcome : Type 0
OneOutcome = (raw : List ℕ) → HasOneOutcome raw

-- what is known of a value by the text that spells it
pub record IsValueOf (raw value : List ℕ) : Type 0 where
  pub no_nul : HasNoNul value
  pub no_longer : length value ≤ length raw
  pub bytes : AreBytes raw → AreBytes value

-- a value has no NUL, is no longer than the text that spells it, and is of bytes if the text is
abbrev pub ValuesAreSound : Type 0
ValuesAreSound = (raw value : List ℕ) (odd : Bool) → Spells raw value odd → IsValueOf raw value

-- the text that is written spells the value
abbrev pub WrittenSpells : Type 0
WrittenSpells = (value : List ℕ) → AreBytes value → HasNoNul value → Spells (spelling_of value) value false
