-- What words and variables spell.
use Rattle.std.proofs.Common.{◌≡◌, ℕ, ◌+◌, ◌-◌, ◌*◌, ◌^◌, ◌<◌, ◌≤◌, Bool, true, false, List, [], ◌∷◌, length, take, drop, get_or, ltb, Some, None, refl, ap, sym, arith}
use Rattle.std.specs.Prelude.{min, pos}
use Rattle.std.specs.Char.{digit_value}
use Rattle.std.specs.Str.Parse.{digits_value, starts_with_minus, without_leading_sign}
use Rattle.std.proofs.lemmas.Bool.{le-ltb, lt-ltb}
use Rattle.std.proofs.lemmas.Int.Digits.{digits_value_more}
use Rattle.std.proofs.lemmas.List.{take_all}
use Rattle.ti_param.specs.Meaning.{in_32_bits}
use Rattle.everyday_tput.specs.Numbers.{after_space, base_of, decimal_size, digits_of, in_long, is_numeral, is_space, signed_number}
use Rattle.everyday_tput.proofs.Saturating.{saturates}

-- ---- white space

-- one byte of it
pub space_step : (rest : List ℕ) → 0 < length rest → is_space (get_or rest 0 0) ≡ true → after_space (take (length rest - 1) (drop 1 rest)) ≡ after_space rest
unfolding after_space
space_step [] some is = absurd (omega arith)
space_step (byte ∷ bytes) some is = rw is (ap after_space (take_all (length (byte ∷ bytes) - 1) bytes (omega arith)))

pub space_ends : (rest : List ℕ) → is_space (get_or rest 0 0) ≡ false → rest ≡ after_space rest
unfolding after_space
space_ends [] is = refl
space_ends (byte ∷ bytes) is = rw is refl

pub space_none : (rest : List ℕ) → length rest < 1 → rest ≡ after_space rest
unfolding after_space
space_none [] none = refl
space_none (byte ∷ bytes) none = absurd (omega arith)

-- ---- digits

-- one digit more
pub one_more : (m base : ℕ) (xs : List ℕ) (i n product digit wide wide_base number : ℕ) → 1 ≤ base → i < length xs
    → n ≡ min (digits_value base (take i xs)) m → product ≡ min (n * wide_base) m → wide_base ≡ base → wide ≡ digit
    → digit ≡ digit_value (get_or xs i 0) → number ≡ min (product + wide) m
    → number ≡ min (digits_value base (take (i + 1) xs)) m
one_more m base xs i n product digit wide wide_base number some lt is_n is_product is_base is_wide is_digit is_number =
    rw (is_number, is_product, is_n, is_base, is_wide, is_digit, digits_value_more base xs i lt)
    (saturates m (digits_value base (take i xs)) base (digit_value (get_or xs i 0)) some)

-- ---- sizes

pub sized : (digits : List ℕ) (n : ℕ) → is_numeral 10 digits ≡ true → n ≡ min (digits_value 10 digits) 18446744073709551615 → 0 < n → n ≤ 2147483647
    → Some n ≡ decimal_size digits
sized digits n numeral is low high =
    let same : n ≡ digits_value 10 digits = omega arith in
    let over : ltb 0 (digits_value 10 digits) ≡ true = lt-ltb _ _ (omega arith) in
    let below : ltb (digits_value 10 digits) 2147483648 ≡ true = lt-ltb _ _ (omega arith) in
    rw (numeral, over, below) (ap Some same)

pub too_large : (digits : List ℕ) (n : ℕ) → is_numeral 10 digits ≡ true → n ≡ min (digits_value 10 digits) 18446744073709551615 → 2147483647 < n
    → None ≡ decimal_size digits
too_large digits n numeral is high =
    let over : ltb 0 (digits_value 10 digits) ≡ true = lt-ltb _ _ (omega arith) in
    let above : ltb (digits_value 10 digits) 2147483648 ≡ false = le-ltb _ _ (omega arith) in
    rw (numeral, over, above) refl

pub zero_size : (digits : List ℕ) (n : ℕ) → is_numeral 10 digits ≡ true → n ≡ min (digits_value 10 digits) 18446744073709551615 → n ≤ 0
    → None ≡ decimal_size digits
zero_size digits n numeral is low =
    let none : ltb 0 (digits_value 10 digits) ≡ false = le-ltb _ _ (omega arith) in
    rw (numeral, none) refl

pub no_size : (digits : List ℕ) → is_numeral 10 digits ≡ false → None ≡ decimal_size digits
no_size digits numeral = rw numeral refl

-- ---- words

cut : (negative : Bool) (n : ℕ) → in_long negative (min n 18446744073709551615) ≡ in_long negative n
cut true n = let e : min (min n 18446744073709551615) (2 ^ 63) ≡ min n (2 ^ 63) = omega arith in rw e refl
cut false n = let e : min (min n 18446744073709551615) (2 ^ 63 - 1) ≡ min n (2 ^ 63 - 1) = omega arith in rw e refl

module _ (text unsigned digits : List ℕ) (base : ℕ) (negative : Bool) (is_unsigned : unsigned ≡ without_leading_sign text) (is_base : base ≡ base_of unsigned)
    (is_digits : digits ≡ digits_of unsigned) (is_negative : negative ≡ starts_with_minus text) where
  pub spelled : (n : ℕ) → is_numeral base digits ≡ true → n ≡ min (digits_value base digits) 18446744073709551615
      → in_32_bits (in_long negative n) ≡ signed_number text
  spelled n numeral is =
      let there : is_numeral (base_of (without_leading_sign text)) (digits_of (without_leading_sign text)) ≡ true =
      rw (sym is_unsigned, sym is_base, sym is_digits) numeral in
      rw (there, is, is_base, is_digits, is_unsigned, is_negative)
      (ap in_32_bits (cut (starts_with_minus text) (digits_value (base_of (without_leading_sign text)) (digits_of (without_leading_sign text)))))

  pub unspelled : is_numeral base digits ≡ false → pos 0 ≡ signed_number text
  unspelled numeral =
      let none : is_numeral (base_of (without_leading_sign text)) (digits_of (without_leading_sign text)) ≡ false =
      rw (sym is_unsigned, sym is_base, sym is_digits) numeral in
      rw none refl
