-- One more digit in the buffer.
use Rattle.std.proofs.Common.{◌≡◌, ◌≢◌, ℕ, ◌+◌, ◌-◌, ◌/◌, ◌%◌, ◌^◌, ◌<◌, ◌≤◌, Bool, true, false, List, [], ◌∷◌, ◌++◌, length, map, drop, get_or, set, subst}
use Rattle.std.proofs.Common.{refl, sym, ap, ◌∙◌, arith}
use Rattle.std.proofs.lemmas.Bool.Decides.{nat_tests}
use Rattle.std.proofs.lemmas.Int.Digits.{digits_of_step, length-digits_of_step, length-digits_of-le}
use Rattle.std.proofs.lemmas.List.{append_assoc, map-append}
use Rattle.std.proofs.lemmas.Grind.{drop-set_at}
use Rattle.std.proofs.Math.Nat.{pow-le-pow_left}
use Rattle.std.specs.Fmt.{digit_glyph}
use Rattle.std.specs.Int.Digits.{digits_of}
use Rattle.ti_printing.specs.Printf.{BeginsAboveZero}
use Rattle.ti_printing.proofs.Numerals.{begins_above-digits_of}

-- 32 bits have at most 11 digits
pub digits_fit : (base number : ℕ) → 8 ≤ base → number < 2 ^ 32 → length (digits_of base number) ≤ 11
digits_fit base number low small =
    let power : 8 ^ 11 ≤ base ^ 11 = pow-le-pow_left low 11 in
    length-digits_of-le base 11 number (omega arith) (omega arith)

pub digits_of-some : (base rest : ℕ) → 8 ≤ base → 0 < rest → 0 < length (digits_of base rest)
digits_of-some base rest low more = omega (arith, length-digits_of_step base rest (omega arith) more)

pub length-digits_of-next : (base rest at : ℕ) → 8 ≤ base → 0 < rest → length (digits_of base rest) ≤ at → length (digits_of base (rest / base)) ≤ at - 1
length-digits_of-next base rest at low more room =
    let step = length-digits_of_step base rest (omega arith) more in
    omega (arith, step)

pub written-next : (base rest at : ℕ) (upper : Bool) (buffer all : List ℕ) (byte : ℕ) → 8 ≤ base → 0 < rest → 0 < at → at ≤ length buffer
    → byte ≡ digit_glyph upper (rest % base)
    → map (digit_glyph upper) (digits_of base rest) ++ drop at buffer ≡ all
    → map (digit_glyph upper) (digits_of base (rest / base)) ++ drop (at - 1) (set buffer (at - 1) byte) ≡ all
written-next base rest at upper buffer all byte low more some within glyph written =
    let put : drop (at - 1) (set buffer (at - 1) byte) ≡ byte ∷ drop (at - 1 + 1) buffer = drop-set_at buffer (at - 1) (at - 1) byte refl (omega arith) in
    let back : at - 1 + 1 ≡ at = omega arith in
    let front = map (digit_glyph upper) (digits_of base (rest / base)) in
    let step : map (digit_glyph upper) (digits_of base rest) ≡ front ++ (digit_glyph upper (rest % base) ∷ []) =
    ap (map (digit_glyph upper)) (digits_of_step base rest (omega arith) more)
    ∙ map-append (digit_glyph upper) (digits_of base (rest / base)) (rest % base ∷ []) in
    ap (λ bs. front ++ bs) (put ∙ ap (λ n. byte ∷ drop n buffer) back ∙ ap (λ b. b ∷ drop at buffer) glyph) ∙
    sym (append_assoc front (digit_glyph upper (rest % base) ∷ []) (drop at buffer)) ∙
    ap (λ bs. bs ++ drop at buffer) (sym step) ∙ written

glyph_not_zero : (upper : Bool) (d : ℕ) → 0 < d → digit_glyph upper d ≢ 48
glyph_not_zero true d more = grind (arith, nat_tests)
glyph_not_zero false d more = grind (arith, nat_tests)

plain-map : (upper : Bool) (ds : List ℕ) → BeginsAboveZero ds → get_or (map (digit_glyph upper) ds) 0 0 ≢ 48
plain-map upper [] h = omega arith
plain-map upper (d ∷ ds) h = glyph_not_zero upper d h

-- a numeral begins with no 0
pub plain_numeral : (base number : ℕ) (upper : Bool) (bytes : List ℕ) → 8 ≤ base → bytes ≡ map (digit_glyph upper) (digits_of base number)
    → get_or bytes 0 0 ≢ 48
plain_numeral base number upper bytes low e =
    subst (λ bs. get_or bs 0 0 ≢ 48) (sym e) (plain-map upper (digits_of base number) (begins_above-digits_of base number (omega arith)))
