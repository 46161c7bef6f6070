-- Numbers in a format, as the reader takes them digit by digit.
use Rattle.std.proofs.Common.{◌≡◌, ◌≢◌, ℕ, ◌+◌, ◌-◌, ◌*◌, ◌<◌, ◌≤◌, min, Bool, true, false, List, [], ◌∷◌, length, length-append, pos, refl, ap, sym, ◌∙◌}
use Rattle.std.proofs.Common.{arith}
use Rattle.std.specs.Prelude.{Option, Some, None, ◌==◌, ◌&&◌, nat_lt, nat_le, if◌then◌else◌}
use Rattle.std.proofs.lemmas.Bool.Decides.{nat_tests, Decides-eqb}
use Rattle.ti_formats.specs.declared.codes.Code.TheVariants.{Constant}
use Rattle.ti_formats.specs.declared.codes.Token.TheVariants.{Operation}
use Rattle.ti_printing.specs.declared.printf.Conversion.{Conversion}
use Rattle.ti_printing.specs.declared.printf.Directive.{Directive}
use Rattle.ti_printing.specs.declared.printf.Flags.{Flags}
use Rattle.ti_formats.specs.Codes.{span, begins_zero, row_for, conversions}
use Rattle.ti_text.specs.Digits.{is_decimal_digit, decimal_value, decimal_from}
use Rattle.ti_formats.specs.inside.Codes.{number_after, constant_before, flags_after, precision_after, directive_after, directive_with}
use Rattle.ti_formats.proofs.Fronts.{span-whole, fails, braced}

-- the front goes on if the byte passes, and ends if it does not
pub span-go : (p : ℕ → Bool) (x : ℕ) (xs : List ℕ) → p x ≡ true → span p (x ∷ xs) ≡ (x ∷ (span p xs).0, (span p xs).1)
span-go p x xs h = rw h refl

pub span-end : (p : ℕ → Bool) (x : ℕ) (xs : List ℕ) → p x ≡ false → span p (x ∷ xs) ≡ ([], x ∷ xs)
span-end p x xs h = rw h refl

-- a number that is too large does not become smaller
pub decimal_from-capped : (n : ℕ) (ds : List ℕ) → min (decimal_from (min n 4294967295) ds) 4294967295 ≡ min (decimal_from n ds) 4294967295
decimal_from-capped n [] = omega arith
decimal_from-capped n (d ∷ ds) =
    let capped : min (10 * min n 4294967295 + (d - 48)) 4294967295 ≡ min (10 * n + (d - 48)) 4294967295 = omega arith in
    sym (decimal_from-capped (10 * min n 4294967295 + (d - 48)) ds)
    ∙ ap (λ k. min (decimal_from k ds) 4294967295) capped
    ∙ decimal_from-capped (10 * n + (d - 48)) ds

-- one more digit, by sums and products that stop at the greatest number
pub number-step : (v n d goal : ℕ) (ds : List ℕ) → n ≡ min (min (v * 10) 4294967295 + (d - 48)) 4294967295 →
    min (decimal_from v (d ∷ ds)) 4294967295 ≡ goal → min (decimal_from n ds) 4294967295 ≡ goal
number-step v n d goal ds is h =
    let capped : n ≡ min (10 * v + (d - 48)) 4294967295 = omega (arith, is) in
    ap (λ k. min (decimal_from k ds) 4294967295) capped ∙ decimal_from-capped (10 * v + (d - 48)) ds ∙ h

-- no more digits: the number that was read fits
pub number-ends : (v goal : ℕ) (ds : List ℕ) → v < 4294967296 → ds ≡ [] → min (decimal_from v ds) 4294967295 ≡ goal → v ≡ goal
number-ends v goal ds fits none h =
    let h' : min v 4294967295 ≡ goal = ap (λ k. min (decimal_from v k) 4294967295) (sym none) ∙ h in omega arith

-- ---- a number in braces

pub number-none : (text : List ℕ) → (span is_decimal_digit text).1 ≡ [] → number_after text ≡ None
unfolding number_after constant_before
number-none text e = rw e refl

-- how many digits there are
digits-length : (text : List ℕ) → length (span is_decimal_digit text).0 + length (span is_decimal_digit text).1 ≡ length text
digits-length text = sym (ap length (span-whole is_decimal_digit text) ∙ length-append (span is_decimal_digit text).0 (span is_decimal_digit text).1)

pub number-refused : (text after rest : List ℕ) (x value : ℕ) → after ≡ (span is_decimal_digit text).1 → after ≡ x ∷ rest →
    value ≡ min (decimal_value (span is_decimal_digit text).0) 4294967295 →
    (x ≡ 125 → length after ≢ length text → value ≤ 2147483647 → ⊥) → number_after text ≡ None
unfolding number_after constant_before
number-refused text after rest x value is begins capped refused =
    let l : length (span is_decimal_digit text).0 + length after ≡ length text =
    ap (λ t. length (span is_decimal_digit text).0 + length t) is ∙ digits-length text in
    let test : ((x == 125 && nat_lt 0 (length (span is_decimal_digit text).0)) && nat_le (decimal_value (span is_decimal_digit text).0) 2147483647) ≡ false =
    fails _ (λ h. let (brace, some, small) = braced x (length (span is_decimal_digit text).0) (decimal_value (span is_decimal_digit text).0) h in
    refused brace (λ same. omega arith) (omega arith)) in
    rw (sym is ∙ begins) (rw test refl)

pub number-read : (text after rest : List ℕ) (x value : ℕ) → after ≡ (span is_decimal_digit text).1 → after ≡ x ∷ rest →
    value ≡ min (decimal_value (span is_decimal_digit text).0) 4294967295 →
    x ≡ 125 → length after ≢ length text → value ≤ 2147483647 → number_after text ≡ Some (Operation (Constant (pos value)), rest)
unfolding number_after constant_before
number-read text after rest x value is begins capped brace some small =
    let l : length (span is_decimal_digit text).0 + length after ≡ length text =
    ap (λ t. length (span is_decimal_digit text).0 + length t) is ∙ digits-length text in
    let n : ℕ = length (span is_decimal_digit text).0 in
    let d : ℕ = decimal_value (span is_decimal_digit text).0 in
    let same : value ≡ d = omega arith in
    let nonempty : 0 < n = omega arith in
    let few : d ≤ 2147483647 = omega arith in
    rw (sym is ∙ begins) (rw (holds x n d brace nonempty few) (ap (λ k. Some (Operation (Constant (pos k)), rest)) (sym same)))
  where
    holds : (x n d : ℕ) → x ≡ 125 → 0 < n → d ≤ 2147483647 → ((x == 125 && nat_lt 0 n) && nat_le d 2147483647) ≡ true
    holds x n d e f g = grind (arith, nat_tests)

-- ---- a printf form

pub zero-none : (text : List ℕ) → length text ≡ 0 → begins_zero (span is_decimal_digit text).0 ≡ false
zero-none [] h = refl
zero-none (x ∷ xs) h = absurd (omega arith)

pub zero-first : (x : ℕ) (xs : List ℕ) → begins_zero (span is_decimal_digit (x ∷ xs)).0 ≡ (x == 48)
zero-first x xs =
    elim (is_decimal_digit x) as (λ b. is_decimal_digit x ≡ b
    → begins_zero (if◌then◌else◌ {A = List ℕ × List ℕ} b (x ∷ (span is_decimal_digit xs).0, (span is_decimal_digit xs).1) ([], x ∷ xs)).0 ≡ (x == 48)) [
      | true ↦ λ h. refl
      | false ↦ λ h. sym (fails (x == 48) (λ e. no_zero h ((Decides-eqb x 48).0 e)))
    ] refl
  where
    no_zero : is_decimal_digit x ≡ false → x ≡ 48 → ⊥
    no_zero h e = grind (arith, nat_tests)

pub directive-parts : (text after left : List ℕ) (flags : Flags) → ◌≡◌ {A = Flags × List ℕ} (flags, after) (flags_after text)
    → left ≡ (span is_decimal_digit after).1 →
    directive_after text ≡ directive_with flags (span is_decimal_digit after).0 (precision_after left)
unfolding directive_after
directive-parts text after left flags e f = rw (sym e) (rw (sym f) refl)

pub width-large : (flags : Flags) (ds : List ℕ) (precision : Option ℕ) (x : ℕ) (rest : List ℕ) (value : ℕ) →
    value ≡ min (decimal_value ds) 4294967295 → 999 < value → directive_with flags ds (Some (precision, x ∷ rest)) ≡ None
unfolding directive_with
width-large flags ds precision x rest value capped large =
    let over : nat_le (decimal_value ds) 999 ≡ false = grind (arith, nat_tests) in rw over refl

pub conversion-unknown : (flags : Flags) (ds : List ℕ) (precision : Option ℕ) (x : ℕ) (rest : List ℕ) →
    row_for x conversions ≡ None → directive_with flags ds (Some (precision, x ∷ rest)) ≡ None
unfolding directive_with
conversion-unknown flags ds precision x rest row = rw row (either (nat_le (decimal_value ds) 999))
  where
    either : (b : Bool) → ◌≡◌ {A = Option (Directive × List ℕ)} (if b then None else None) None
    either true = refl
    either false = refl

pub directive-read : (flags : Flags) (ds : List ℕ) (precision : Option ℕ) (x : ℕ) (rest : List ℕ) (value : ℕ) (zero : Bool) (conversion : Conversion) →
    value ≡ min (decimal_value ds) 4294967295 → value ≤ 999 → zero ≡ begins_zero ds → row_for x conversions ≡ Some conversion →
    directive_with flags ds (Some (precision, x ∷ rest)) ≡
    Some (record { flags = record flags { zero = zero }; width = value; precision = precision; conversion = conversion }, rest)
unfolding directive_with
directive-read flags ds precision x rest value zero conversion capped small is row =
    let under : nat_le (decimal_value ds) 999 ≡ true = grind (arith, nat_tests) in
    let same : decimal_value ds ≡ value = omega arith in
    rw under (rw row (rw (same, sym is) refl))
