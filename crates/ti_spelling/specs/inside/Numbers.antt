-- The value of a number, computed, and the law that it is that of `Numbers` (own).
use Rattle.ti_text.specs.Ascii as ascii
use Rattle.ti_text.specs.Ascii.{byte_of}
use Rattle.std.specs.Prelude.{◌≡◌, ℕ, ◌||◌, ◌==◌, nat_le, nat_lt, if◌then◌else◌, List, [], ◌∷◌, Option, Some, None, Result, Ok, Err}
use Rattle.std.specs.List.{list_all}
use Rattle.ti_spelling.specs.declared.numbers.NumberError.{NumberError}
use Rattle.ti_spelling.specs.declared.numbers.NumberError.TheVariants.{Bad, TooLarge}
use Rattle.ti_spelling.specs.WhiteSpace.{without_trailing_space}
use Rattle.ti_spelling.specs.Numbers.{ReadsAs, digit_value, value_in}
use Rattle.ti_text.specs.Limits.{number_max}

-- the value of digits in a base, none if a byte is not a digit of it
abbrev pub digits_read : ℕ → List ℕ → Option ℕ
digits_read base ds = if list_all (λ b. nat_lt (digit_value b) base) ds then Some (value_in base ds) else None

-- the value of what is after a first `0`
abbrev pub after_zero_read : List ℕ → Option ℕ
after_zero_read [] = Some 0
after_zero_read (x ∷ []) = digits_read 8 (x ∷ [])
after_zero_read (x ∷ d ∷ ds) = if x == byte_of "x" || x == byte_of "X" then digits_read 16 (d ∷ ds) else digits_read 8 (x ∷ d ∷ ds)

-- the value of a number, or none
abbrev pub value_read : List ℕ → Option ℕ
value_read [] = None
value_read (d ∷ ds) = if d == ascii.digit_0 then after_zero_read ds else digits_read 10 (d ∷ ds)

-- a value within the limit
abbrev pub within_limit : Option ℕ → Result ℕ NumberError
within_limit None = Err Bad
within_limit (Some value) = if nat_le value number_max then Ok value else Err TooLarge

-- what a text reads as: a number, or why it is none
abbrev pub number_read : List ℕ → Result ℕ NumberError
number_read text = within_limit (value_read (without_trailing_space text))

-- a text reads as what is computed, and as nothing else
pub record NumbersAreComputed : Type 0 where
  pub reads : (text : List ℕ) → ReadsAs text (number_read text)
  pub only : (text : List ℕ) (r : Result ℕ NumberError) → ReadsAs text r → number_read text ≡ r
