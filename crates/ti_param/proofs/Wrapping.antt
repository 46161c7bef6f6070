-- Numbers of 32 bits that wrap.
use Rattle.std.proofs.Common.{◌≡◌, ℕ, zero, suc, ◌-◌, ◌%◌, ◌≤◌, ◌==◌, true, false, ℤ, pos, negsuc, unsigned_abs, refl, ap, sym, ◌∙◌, arith, neg_ℤ}
use Rattle.std.specs.Int.{w32, cast_signed, cast_unsigned, int_wrap}
use Rattle.std.specs.Int.RustNames.{int_div, FitsSigned}
use Rattle.std.proofs.lemmas.Bool.Decides.{nat_tests}
use Rattle.std.proofs.Math.Nat.{div-le_self}
use Rattle.std.proofs.lemmas.Int.{to_z-of_z}

-- the bits of a number that is hardly out of range are those of the number that it wraps to
pub bits-in_32_bits : (n : ℤ) → unsigned_abs n ≤ 2147483648 → cast_signed w32 (cast_unsigned w32 n) ≡ int_wrap w32 n
unfolding int_wrap
bits-in_32_bits (pos n) h = let e : n % 4294967296 ≡ n = omega arith in ap (cast_signed w32) (sym e)
bits-in_32_bits (negsuc n) h = let e : 4294967296 - suc n ≡ 4294967296 - 1 - n % 4294967296 = omega arith in ap (cast_signed w32) e

abs-neg : (n : ℕ) → unsigned_abs (neg_ℤ (pos n)) ≡ n
abs-neg zero = refl
abs-neg (suc n) = refl

-- a quotient is no further from 0 than what was divided
pub abs-quotient : (x y : ℤ) → unsigned_abs (int_div x y) ≤ unsigned_abs x
abs-quotient (pos a) (pos b) = div-le_self a b
abs-quotient (pos a) (negsuc b) = rw abs-neg (div-le_self a (suc b))
abs-quotient (negsuc a) (pos b) = rw abs-neg (div-le_self (suc a) b)
abs-quotient (negsuc a) (negsuc b) = div-le_self (suc a) (suc b)

abs-fits : (x : ℤ) → FitsSigned w32 x → unsigned_abs x ≤ 2147483648
abs-fits (pos n) h = let f = h.sfits in omega arith
abs-fits (negsuc n) h = let f = h.sfits in omega arith

-- the code's division of numbers that fit
pub quotient-in_32_bits : (x y q : ℤ) → FitsSigned w32 x → FitsSigned w32 y → FitsSigned w32 q →
    q ≡ cast_signed w32 (cast_unsigned w32 (int_div (cast_signed w32 (cast_unsigned w32 x)) (cast_signed w32 (cast_unsigned w32 y)))) →
    cast_signed w32 (cast_unsigned w32 q) ≡ int_wrap w32 (int_div x y)
quotient-in_32_bits x y q fx fy fq is =
    to_z-of_z w32 q fq ∙ is
    ∙ ap (λ n. cast_signed w32 (cast_unsigned w32 (int_div n (cast_signed w32 (cast_unsigned w32 y))))) (to_z-of_z w32 x fx)
    ∙ ap (λ n. cast_signed w32 (cast_unsigned w32 (int_div x n))) (to_z-of_z w32 y fy)
    ∙ bits-in_32_bits (int_div x y) (let a = abs-fits x fx in let b = abs-quotient x y in omega arith)

-- a length taken as a number
pub length-in_32_bits : (n : ℕ) (r : ℤ) → FitsSigned w32 r → r ≡ cast_signed w32 (n % 4294967296) → cast_signed w32 (cast_unsigned w32 r) ≡ int_wrap w32 (pos n)
unfolding int_wrap
length-in_32_bits n r f is = to_z-of_z w32 r f ∙ is

-- a number whose bits are not 0 is not 0
pub not-zero : (n : ℤ) → (cast_unsigned w32 n ≡ 0 → ⊥) → (unsigned_abs n == 0) ≡ false
not-zero (pos n) h = grind (arith, nat_tests)
not-zero (negsuc n) h = grind (arith, nat_tests)

-- a number that fits and whose bits are 0 is 0
pub is-zero : (n : ℤ) → FitsSigned w32 n → cast_unsigned w32 n ≡ 0 → (unsigned_abs n == 0) ≡ true
is-zero (pos n) fits h = grind (arith, nat_tests)
is-zero (negsuc n) fits h = let f = fits.sfits in absurd (omega arith)
