-- What a text spells: bytes, none of them a NUL, and no more of them than the text has.
use Rattle.std.proofs.Common.{◌≡◌, ◌≢◌, ℕ, suc, ◌<◌, ◌≤◌, Bool, true, false, cond, eqb, ltb, List, [], ◌∷◌, ◌++◌, length, Some, refl, arith}
use Rattle.std.specs.Prelude.{◌&&◌, bit_and}
use Rattle.std.specs.Map.{lookup}
use Rattle.std.proofs.lemmas.Bool.{eqb-false, ltb-true, and_parts, cond_both}
use Rattle.std.proofs.lemmas.Nat.{and_le_r}
use Rattle.std.proofs.lemmas.List.{length-append}
use Rattle.std.proofs.lemmas.List.Elements.{All-nil, All-cons}
use Rattle.ti_spelling.specs.Spelling.{named_escapes, named_escape, octal_value, not_nul, IsEscape, escape_named, escape_octal, escape_unknown, escape_missing}
use Rattle.ti_spelling.specs.Spelling.{IsControl, control_delete, control_masked, IsPiece, piece_escape, piece_control, piece_caret, piece_plain, SpellsAfter}
use Rattle.ti_spelling.specs.Spelling.{spells_nothing, spells_piece, HasNoNul, AreBytes, ValuesAreSound}
use Rattle.ti_spelling.proofs.PieceLemmas.{piece_some}

-- ---- the named escapes

rows_fit : List (ℕ × ℕ) → Bool
rows_fit [] = true
rows_fit (row ∷ rows) = (ltb 0 row.1 && ltb row.1 256) && rows_fit rows

row_fits : (x byte : ℕ) (rows : List (ℕ × ℕ)) → rows_fit rows ≡ true → lookup (λ row. eqb row x) rows ≡ Some byte → (0 < byte) × (byte < 256)
unfolding rows_fit
row_fits x byte [] fit e = absurd cc
row_fits x byte (row ∷ rows) fit e = by_test (eqb row.0 x) e (row_fits x byte rows (and_parts _ _ fit).1)
  where
    by_test : (b : Bool) → cond b (Some row.1) (lookup (λ row. eqb row x) rows) ≡ Some byte
        → (lookup (λ row. eqb row x) rows ≡ Some byte → (0 < byte) × (byte < 256)) → (0 < byte) × (byte < 256)
    by_test true h later =
        let row_is : row.1 ≡ byte = cc in
        let p = and_parts (ltb 0 row.1) (ltb row.1 256) (and_parts (ltb 0 row.1 && ltb row.1 256) (rows_fit rows) fit).0 in
        (omega (arith, ltb-true 0 row.1 p.0), omega (arith, ltb-true row.1 256 p.1))
    by_test false h later = later h

named_fits : (x byte : ℕ) → named_escape x ≡ Some byte → (0 < byte) × (byte < 256)
unfolding rows_fit
named_fits x byte e = row_fits x byte named_escapes refl e

-- ---- no NUL

not_nul_some : (x : ℕ) → not_nul x ≢ 0
not_nul_some x = cond_both (eqb x 0) 128 x (λ y. y ≢ 0) (λ e is. absurd cc) (λ e is. eqb-false x 0 e is)

escape_some : {text rest : List ℕ} {byte : ℕ} {odd : Bool} → IsEscape text rest byte odd → byte ≢ 0
escape_some (escape_named {letter = x} {byte = byte} e) = omega (arith, (named_fits x byte e).0)
escape_some (escape_octal {digit = x} {digits = ds} e le) = not_nul_some (octal_value (x ∷ ds))
escape_some (escape_unknown named digit some) = some
escape_some escape_missing = omega arith

control_some : {x byte : ℕ} → IsControl x byte → byte ≢ 0
control_some control_delete = omega arith
control_some (control_masked {x = x} low high comma question) = not_nul_some (bit_and x 31)

byte_some : {before byte : ℕ} {text rest : List ℕ} {odd : Bool} → IsPiece before text rest byte odd → byte ≢ 0
byte_some (piece_escape e) = escape_some e
byte_some (piece_control takes c) = control_some c
byte_some (piece_caret literal) = omega arith
byte_some (piece_plain ne92 ne94 ne0) = ne0

pub spelled_no_nul : {before : ℕ} {raw value : List ℕ} {odd : Bool} → SpellsAfter before raw value odd → HasNoNul value
spelled_no_nul spells_nothing = All-nil (λ byte. byte ≢ 0)
spelled_no_nul (spells_piece {byte = byte} {value = value} p later) = All-cons (λ byte. byte ≢ 0) byte value (byte_some p) (spelled_no_nul later)

-- ---- the length

pub spelled_no_longer : {before : ℕ} {raw value : List ℕ} {odd : Bool} → SpellsAfter before raw value odd → length value ≤ length raw
spelled_no_longer spells_nothing = omega arith
spelled_no_longer (spells_piece {text = text} {rest = rest} p later) = omega (arith, piece_some p, spelled_no_longer later, length-append text rest)

-- ---- bytes

not_nul_fits : (x : ℕ) → x < 256 → not_nul x < 256
not_nul_fits x lt = cond_both (eqb x 0) 128 x (λ y. y < 256) (λ e. omega arith) (λ e. lt)

bytes_after : (x : ℕ) (xs : List ℕ) → AreBytes (x ∷ xs) → AreBytes xs
bytes_after x xs bytes k d lt = bytes (suc k) d (omega arith)

bytes_of_rest : (text rest : List ℕ) → AreBytes (text ++ rest) → AreBytes rest
bytes_of_rest [] rest bytes = bytes
bytes_of_rest (x ∷ text) rest bytes = bytes_of_rest text rest (bytes_after x (text ++ rest) bytes)

escape_fits : {text rest : List ℕ} {byte : ℕ} {odd : Bool} → IsEscape text rest byte odd → AreBytes (text ++ rest) → byte < 256
escape_fits (escape_named {letter = x} {byte = byte} e) bytes = (named_fits x byte e).1
escape_fits (escape_octal {digit = x} {digits = ds} e le) bytes = not_nul_fits (octal_value (x ∷ ds)) (omega (arith, le))
escape_fits (escape_unknown named digit some) bytes = bytes 0 0 (omega arith)
escape_fits escape_missing bytes = omega arith

control_fits : {x byte : ℕ} → IsControl x byte → byte < 256
control_fits control_delete = omega arith
control_fits (control_masked {x = x} low high comma question) = not_nul_fits (bit_and x 31) (omega (arith, and_le_r x 31))

byte_fits : {before byte : ℕ} {text rest : List ℕ} {odd : Bool} → IsPiece before text rest byte odd → AreBytes (text ++ rest) → byte < 256
byte_fits (piece_escape {text = text} {rest = rest} e) bytes = escape_fits e (bytes_after 92 (text ++ rest) bytes)
byte_fits (piece_control takes c) bytes = control_fits c
byte_fits (piece_caret literal) bytes = omega arith
byte_fits (piece_plain ne92 ne94 ne0) bytes = bytes 0 0 (omega arith)

spelled_bytes : {before : ℕ} {raw value : List ℕ} {odd : Bool} → SpellsAfter before raw value odd → AreBytes raw → AreBytes value
spelled_bytes spells_nothing bytes = All-nil (λ byte. byte < 256)
spelled_bytes (spells_piece {byte = byte} {text = text} {rest = rest} {value = value} p later) bytes =
    All-cons (λ byte. byte < 256) byte value (byte_fits p bytes) (spelled_bytes later (bytes_of_rest text rest bytes))

-- ---- the law

pub values_are_sound : ValuesAreSound
values_are_sound raw value odd s = record { no_nul = spelled_no_nul s; no_longer = spelled_no_longer s; bytes = spelled_bytes s }
