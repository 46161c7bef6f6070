-- Padding that is none (terminfo(5), "Delays and Padding"): a delay is `$<`, one to five digits, a
-- point and a digit if tenths of a millisecond are wanted, `*` and `/` in either order, and `>`.
use Rattle.ti_text.specs.Ascii as ascii
use Rattle.ti_text.specs.Digits.{is_decimal_digit}
use Rattle.std.specs.Prelude.{ℕ, ◌+◌, ◌==◌, ◌||◌, Bool, true, false, List, [], ◌∷◌, drop, nat_lt, Option, None, Some, if◌then◌else◌}
use Rattle.std.specs.Option.{option_or}
use Rattle.ti_printing.specs.Padding.{delay_digits_max}
use Rattle.source_block_hints.specs.declared.found.Found.{Found}
use Rattle.source_block_hints.specs.declared.hint.HintKind.{HintKind}
use Rattle.source_block_hints.specs.declared.hint.HintKind.TheVariants.{WrongPadding, LongDelay}

-- how many bytes at the front of a text pass a test
abbrev pub run_len : (ℕ → Bool) → List ℕ → ℕ
run_len test [] = 0
run_len test (x ∷ xs) = if test x then 1 + run_len test xs else 0

-- a text without a point and a digit at its front
abbrev pub after_tenths : List ℕ → List ℕ
after_tenths (x ∷ y ∷ ys) = if x == ascii.dot then (if is_decimal_digit y then ys else x ∷ y ∷ ys) else x ∷ y ∷ ys
after_tenths text = text

-- a text without this byte at its front
abbrev pub after_mark : ℕ → List ℕ → List ℕ
after_mark mark [] = []
after_mark mark (x ∷ xs) = if x == mark then xs else x ∷ xs

-- whether a text begins with this byte
abbrev pub begins : ℕ → List ℕ → Bool
begins byte [] = false
begins byte (x ∷ xs) = x == byte

-- a text without `*` and `/` at its front, each at most once in either order
abbrev pub after_marks : List ℕ → List ℕ
after_marks text =
    if begins ascii.asterisk text
    then after_mark ascii.slash (after_mark ascii.asterisk text)
    else after_mark ascii.asterisk (after_mark ascii.slash text)

-- whether what follows the digits of a delay ends it as it must
abbrev pub is_ended : List ℕ → Bool
is_ended text = begins ascii.greater_than (after_marks (after_tenths text))

-- what is wrong with a delay of so many digits
abbrev pub digits_fault : ℕ → Bool → Option HintKind
digits_fault digits false = Some WrongPadding
digits_fault digits true =
    if digits == 0 then Some WrongPadding else if nat_lt delay_digits_max digits then Some LongDelay else None

-- what is wrong with the delay whose `$<` is just before a text
abbrev pub delay_fault : List ℕ → Option HintKind
delay_fault text = let digits = run_len is_decimal_digit text in digits_fault digits (is_ended (drop digits text))

-- what is wrong with the delay that a text begins with, if its `$<` is there
abbrev pub fault_at : List ℕ → Option HintKind
fault_at (x ∷ y ∷ ys) = if x == ascii.dollar then (if y == ascii.less_than then delay_fault ys else None) else None
fault_at text = None

-- a byte that may be in a delay after its `$<`
abbrev pub is_delay_byte : ℕ → Bool
is_delay_byte b = is_decimal_digit b || b == ascii.dot || b == ascii.asterisk || b == ascii.slash || b == ascii.greater_than

-- a fault of the delay that begins at an offset, with the bytes that look like the delay
abbrev pub found_at : ℕ → List ℕ → Option HintKind → Option Found
found_at at text None = None
found_at at text (Some kind) = Some (record { kind = kind; part = record { start = at; end = at + 2 + run_len is_delay_byte (drop 2 text) } })

-- the first wrong delay of a text that begins at this offset
abbrev pub delay_from : ℕ → List ℕ → Option Found
delay_from at [] = None
delay_from at (x ∷ xs) = option_or (found_at at (x ∷ xs) (fault_at (x ∷ xs))) (delay_from (at + 1) xs)
