-- Bytes as they are written (infocmp(1), -C; termcap(5), terminfo(5)).
use Rattle.std.specs.Prelude.{ℕ, ◌+◌, ◌/◌, ◌%◌, ◌==◌, nat_le, nat_lt, Bool, false, ◌&&◌, ◌||◌, not, if◌then◌else◌, List, [], ◌∷◌, codes}
use Rattle.std.specs.List.{list_all}
use Rattle.ti_text.specs.Ascii as ascii
use Rattle.ti_text.specs.Digits.{is_decimal_digit}
use Rattle.everyday_converting.specs.declared.bytes.Place.{Place}

-- a byte of ASCII that is printed, or a space
abbrev pub is_printed : ℕ → Bool
is_printed x = nat_le ascii.space x && nat_lt x ascii.delete

-- a backslash and three octal digits
abbrev pub octal_text : ℕ → List ℕ
octal_text x = ascii.backslash ∷ (ascii.digit_0 + x / 64) ∷ (ascii.digit_0 + x / 8 % 8) ∷ (ascii.digit_0 + x % 8) ∷ []

-- a control byte as a caret and its letter
abbrev pub caret_text : ℕ → List ℕ
caret_text x = ascii.caret ∷ (x + 64) ∷ []

-- whether a text begins with a digit
abbrev pub begins_with_digit : List ℕ → Bool
begins_with_digit [] = false
begins_with_digit (x ∷ xs) = is_decimal_digit x

-- a text of spaces
abbrev pub is_blank : List ℕ → Bool
is_blank xs = list_all (λ x. x == ascii.space) xs

-- a byte that is not printed, before others; a caret is also for a control byte before a digit,
-- which an octal number would take in
abbrev pub control_text : Bool → ℕ → List ℕ → List ℕ
control_text caret x xs =
    if x == ascii.in_place_of_nul then codes "\\0"
    else (if x == ascii.escape then codes "\\E"
    else (if x == ascii.carriage_return then codes "\\r"
    else (if x == ascii.newline then codes "\\n"
    else (if nat_lt x ascii.space && (caret || begins_with_digit xs) then caret_text x
    else octal_text x))))

-- a byte of a string in termcap's form, before the others: a caret after a `%` stays as it is
abbrev pub termcap_byte : Place → ℕ → List ℕ → List ℕ
termcap_byte place x xs =
    if x == ascii.colon then codes "\\072"
    else (if x == ascii.caret && not place.percent then codes "\\136"
    else (if x == ascii.backslash then codes "\\\\"
    else (if x == ascii.space && (place.first || is_blank xs) then codes "\\s"
    else (if is_printed x then x ∷ []
    else control_text place.caret x xs))))

-- a byte of a string as ncurses writes it in a terminfo source, before the others: a byte that is
-- printed stays as it is after a `%`
abbrev pub source_byte : Place → ℕ → List ℕ → List ℕ
source_byte place x xs =
    if x == ascii.comma then codes "\\,"
    else (if is_printed x && place.percent then x ∷ []
    else (if x == ascii.caret then codes "\\^"
    else (if x == ascii.backslash then codes "\\\\"
    else (if x == ascii.space && (place.first || is_blank xs) then codes "\\s"
    else (if is_printed x then x ∷ []
    else (if x == ascii.delete && place.caret then codes "^?"
    else control_text place.caret x xs))))))

-- a byte that termcap's form has after a code, as of `%+`
abbrev pub operand_text : ℕ → List ℕ
operand_text x =
    if x == ascii.colon then codes "\\:"
    else (if x == ascii.backslash then codes "\\\\"
    else (if is_printed x then x ∷ []
    else (if nat_lt x ascii.space then caret_text x
    else octal_text x)))
