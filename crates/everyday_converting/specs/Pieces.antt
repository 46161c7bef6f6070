-- The pieces of a string: bytes, delays, and in a string with parameters the codes and runs of codes
-- of terminfo(5) that termcap(5) has a code for.
use Rattle.std.specs.Prelude.{ℕ, ◌+◌, ◌-◌, ◌*◌, ◌==◌, nat_eq, nat_le, Bool, ◌&&◌, ◌||◌, not, if◌then◌else◌, List, length, codes, drop}
use Rattle.std.specs.Prelude.{slice_index, take_while, Option, Some, None}
use Rattle.std.specs.List.{starts_with}
use Rattle.std.specs.Option.{option_and_then}
use Rattle.ti_text.specs.Ascii as ascii
use Rattle.ti_text.specs.Ascii.{byte_of}
use Rattle.ti_text.specs.Digits.{is_decimal_digit}
use Rattle.everyday_converting.specs.Bytes.{is_printed}
use Rattle.everyday_converting.specs.declared.pieces.Constant.{Constant}
use Rattle.everyday_converting.specs.declared.pieces.Piece.{Piece}
use Rattle.everyday_converting.specs.declared.pieces.Piece.TheVariants.{Literal, Delay, Percent, Decimal, Wide, Character, Text, Increment, First, Second, Add, Above, Bcd}
use Rattle.everyday_converting.specs.declared.pieces.Piece.TheVariants.{Delta, Toggle, Invert}
use Rattle.everyday_converting.specs.declared.pieces.Placed.{Placed}

-- whether a text begins so
abbrev pub begins : List ℕ → List ℕ → Bool
begins text front = starts_with nat_eq text front

-- the value of a digit
abbrev pub digit : ℕ → ℕ
digit x = x - ascii.digit_0

-- ---- delays

-- a byte that a delay `$<..>` may have after its `$<`
abbrev pub is_of_delay : ℕ → Bool
is_of_delay x = is_decimal_digit x || (x == ascii.dot || (x == ascii.asterisk || (x == ascii.slash || x == ascii.greater_than)))

-- how many bytes a delay has after its `$<`
abbrev pub delay_size : List ℕ → ℕ
delay_size text = length (take_while is_of_delay text)

-- ---- constants

-- a constant in braces, `%{N}`, of up to three digits and at most 255
abbrev pub number_constant : List ℕ → Option Constant
number_constant text =
    let a = slice_index text 2 in
    let b = slice_index text 3 in
    let c = slice_index text 4 in
    if not (is_decimal_digit a) then None
    else (if b == byte_of "}" then Some (record { value = digit a; size = 4 })
    else (if not (is_decimal_digit b) then None
    else (if c == byte_of "}" then Some (record { value = digit a * 10 + digit b; size = 5 })
    else (if not (is_decimal_digit c && slice_index text 5 == byte_of "}") then None
    else (if nat_le (digit a * 100 + digit b * 10 + digit c) 255
    then Some (record { value = digit a * 100 + digit b * 10 + digit c; size = 6 })
    else None)))))

-- a byte that a constant in quotes may have: one that a source writes as it is
abbrev pub is_quotable : ℕ → Bool
is_quotable x = is_printed x && not (x == ascii.comma || (x == ascii.caret || x == ascii.backslash))

-- the constant at the front of a text: in braces, or in quotes, `%'c'`
abbrev pub constant_at : List ℕ → Option Constant
constant_at text =
    if not (slice_index text 0 == ascii.percent) then None
    else (if slice_index text 1 == byte_of "{" then number_constant text
    else (if slice_index text 1 == ascii.apostrophe && (is_quotable (slice_index text 2) && slice_index text 3 == ascii.apostrophe)
    then Some (record { value = slice_index text 2; size = 4 })
    else None))

-- ---- codes, of which the `%` is the first byte

-- a piece of so many bytes
abbrev pub of_size : ℕ → Piece → Placed
of_size size piece = record { size = size; piece = piece }

-- `%?%{x}%>%t%{y}%+%;`: adds y to a parameter above x
abbrev pub comparison_to : Constant → List ℕ → Option Placed
comparison_to x text =
    if begins (drop (2 + x.size) text) (codes "%>%t")
    then option_and_then (λ y. if begins (drop (6 + x.size + y.size) text) (codes "%+%;")
    then Some (of_size (10 + x.size + y.size) (Above x.value y.value)) else None)
    (constant_at (drop (6 + x.size) text))
    else None

abbrev pub comparison_at : List ℕ → Option Placed
comparison_at text = option_and_then (λ x. comparison_to x text) (constant_at (drop 2 text))

-- `%p1%{10}%/%{16}%*%p1%{10}%m%+`: the decimal digits of a parameter as the digits to the base 16
abbrev pub is_bcd : List ℕ → Bool
is_bcd text =
    begins (drop 3 text) (codes "%{10}%/%{16}%*%p") && (slice_index text 19 == slice_index text 2
    && begins (drop 20 text) (codes "%{10}%m%+"))

-- `%p1` or `%p2`
abbrev pub parameter_at : List ℕ → Option Placed
parameter_at text =
    if is_bcd text then Some (of_size 29 Bcd)
    else (if slice_index text 2 == byte_of "1" then Some (of_size 3 First)
    else (if slice_index text 2 == byte_of "2" then Some (of_size 3 Second)
    else None))

-- a constant with what is done with it: `%{c}%+%c`, `%{2}%*%-`, `%{96}%^`, `%{127}%^`
abbrev pub with_constant : List ℕ → Option Placed
with_constant text =
    if begins text (codes "%{2}%*%-") then Some (of_size 8 Delta)
    else (if begins text (codes "%{96}%^") then Some (of_size 7 Toggle)
    else (if begins text (codes "%{127}%^") then Some (of_size 8 Invert)
    else option_and_then (λ c. if begins (drop c.size text) (codes "%+%c") then Some (of_size (c.size + 4) (Add c.value)) else None)
    (constant_at text)))

-- a byte that may end a number in decimal: no octal or hexadecimal form, and no precision
abbrev pub ends_decimal : ℕ → Bool
ends_decimal x = not (x == 0 || (x == byte_of "o" || (x == byte_of "x" || (x == byte_of "X" || x == ascii.dot))))

-- `%2d` or `%02d`: a number of so many digits
abbrev pub width_at : List ℕ → Option Placed
width_at text =
    if is_decimal_digit (slice_index text 2)
    then (if slice_index text 1 == ascii.digit_0 && (not (is_decimal_digit (slice_index text 3)) && ends_decimal (slice_index text 3))
    then Some (of_size 4 (Wide (slice_index text 2))) else None)
    else (if ends_decimal (slice_index text 2) then Some (of_size 3 (Wide (slice_index text 1))) else None)

-- the code or the run of codes at the front of a text
abbrev pub code_at : List ℕ → Option Placed
code_at text =
    let x = slice_index text 1 in
    if x == ascii.percent then Some (of_size 2 Percent)
    else (if x == byte_of "d" then Some (of_size 2 Decimal)
    else (if x == byte_of "c" then Some (of_size 2 Character)
    else (if x == byte_of "s" then Some (of_size 2 Text)
    else (if x == byte_of "i" then Some (of_size 2 Increment)
    else (if x == byte_of "p" then parameter_at text
    else (if x == ascii.question_mark then comparison_at text
    else (if is_decimal_digit x then width_at text
    else with_constant text)))))))

-- ---- pieces

-- the piece at the front of a text that is not empty; none where a code is none of these
abbrev pub piece_at : Bool → List ℕ → Option Placed
piece_at parameters text =
    if begins text (codes "$<") then Some (of_size (2 + delay_size (drop 2 text)) Delay)
    else (if parameters && slice_index text 0 == ascii.percent then code_at text
    else Some (of_size 1 Literal))
