-- The numbers of a source (terminfo(5); X/Open Curses Issue 7, "Terminfo Source Format"): octal,
-- hexadecimal or decimal, as C writes them.
use Rattle.ti_text.specs.Limits.{number_max}
use Rattle.ti_text.specs.Ascii as ascii
use Rattle.ti_text.specs.Ascii.{byte_of}
use Rattle.std.specs.Prelude.{◌≡◌, ◌≢◌, ℕ, ◌+◌, ◌-◌, ◌*◌, ◌<◌, ◌≤◌, ◌&&◌, nat_le, if◌then◌else◌, List, ◌∷◌, ◌++◌, Result, Ok, Err, All, ◌⊎◌}
use Rattle.std.specs.List.{fold, AllPass}
use Rattle.ti_spelling.specs.declared.numbers.NumberError.{NumberError}
use Rattle.ti_spelling.specs.declared.numbers.NumberError.TheVariants.{Bad, TooLarge}
use Rattle.ti_text.specs.WhiteSpace.{is_white_space}

-- what a byte counts as a digit: `0` to `9`, and `a` to `f` or `A` to `F` from 10 on; a byte that
-- is a digit of no base counts 16
abbrev pub digit_value : ℕ → ℕ
digit_value b =
    if nat_le ascii.digit_0 b && nat_le b ascii.digit_9 then b - ascii.digit_0
    else if nat_le (byte_of "a") b && nat_le b (byte_of "f") then 10 + b - byte_of "a"
    else if nat_le (byte_of "A") b && nat_le b (byte_of "F") then 10 + b - byte_of "A"
    else 16

-- a digit of a base
abbrev pub IsDigit : ℕ → ℕ → Type 0
IsDigit base b = digit_value b < base

-- the value of digits in a base
abbrev pub value_in : ℕ → List ℕ → ℕ
value_in base digits = fold (λ value b. value * base + digit_value b) 0 digits

-- a number as it is written, with its value: `0` and octal digits, `0x` or `0X` and hexadecimal
-- digits, or decimal digits of which the first is not `0`
pub data IsNumber : List ℕ → ℕ → Type 0 where
  octal : (ds : List ℕ) → All (IsDigit 8) ds → IsNumber (ascii.digit_0 ∷ ds) (value_in 8 ds)
  hexadecimal : (x d : ℕ) (ds : List ℕ) → (x ≡ byte_of "x") ⊎ (x ≡ byte_of "X") → All (IsDigit 16) (d ∷ ds)
      → IsNumber (ascii.digit_0 ∷ x ∷ d ∷ ds) (value_in 16 (d ∷ ds))
  decimal : (d : ℕ) (ds : List ℕ) → d ≢ ascii.digit_0 → All (IsDigit 10) (d ∷ ds) → IsNumber (d ∷ ds) (value_in 10 (d ∷ ds))

-- a number with white space after it
pub record IsNumeral (text : List ℕ) (value : ℕ) : Type 0 where
  pub number : List ℕ
  pub space : List ℕ
  pub whole : text ≡ number ++ space
  pub blank : AllPass is_white_space space
  pub written : IsNumber number value

-- what a reading of a text says: the value, within the limit; that the value is over the limit; or
-- that there is none
abbrev pub ReadsAs : List ℕ → Result ℕ NumberError → Type 0
ReadsAs text (Ok value) = IsNumeral text value × (value ≤ number_max)
ReadsAs text (Err TooLarge) = (value : ℕ) × IsNumeral text value × (number_max < value)
ReadsAs text (Err Bad) = (value : ℕ) → IsNumeral text value → ⊥

-- a text has at most one value
abbrev pub NumeralsHaveOneValue : Type 0
NumeralsHaveOneValue = (text : List ℕ) (v w : ℕ) → IsNumeral text v → IsNumeral text w → v ≡ w

-- each text reads as something
abbrev pub EachTextIsRead : Type 0
EachTextIsRead = (text : List ℕ) → (r : Result ℕ NumberError) × ReadsAs text r

-- no text reads as two things
abbrev pub NumbersHaveOneReading : Type 0
NumbersHaveOneReading = (text : List ℕ) (one other : Result ℕ NumberError) → ReadsAs text one → ReadsAs text other → one ≡ other
