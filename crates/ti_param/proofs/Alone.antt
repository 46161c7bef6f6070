-- What `%d` alone prints is what std writes of a number.
use Rattle.std.proofs.Common.{◌≡◌, ℕ, zero, suc, ◌+◌, ◌-◌, ◌^◌, ◌<◌, Bool, true, false, List, [], ◌∷◌, ◌++◌, length, map, replicate, refl, ap, sym, ◌∙◌, arith}
use Rattle.std.proofs.Common.{ℤ, pos, negsuc, unsigned_abs, FitsSigned, w32}
use Rattle.std.specs.Prelude.{Option, Some, None, ◌==◌, ◌&&◌, ◌||◌, not, is_none}
use Rattle.std.specs.Fmt.{decimal, signed_decimal, digit_glyph}
use Rattle.std.specs.Int.Digits.{digits_of, AllBelowBase}
use Rattle.std.proofs.lemmas.Bool.Decides.{nat_tests, Decides-eqb}
use Rattle.std.proofs.lemmas.Fmt.{decimal-digits_of, decimal_digit}
use Rattle.std.proofs.lemmas.Int.Digits.{all_below_base_digits_of, length-digits_of_step}
use Rattle.std.proofs.lemmas.List.{length-map}
use Rattle.ti_printing.specs.declared.printf.Conversion.{Conversion}
use Rattle.ti_printing.specs.declared.printf.Conversion.TheVariants.{Decimal, Octal, LowerHex, UpperHex, Text}
use Rattle.ti_printing.specs.declared.printf.Directive.{Directive}
use Rattle.ti_printing.specs.declared.printf.Flags.{Flags}
use Rattle.ti_printing.specs.Printf.{at_least, form_bytes}
use Rattle.ti_formats.specs.Codes.{no_flags}
use Rattle.ti_formats.specs.inside.Codes.{plain_form}
use Rattle.ti_param.specs.inside.Output.{has_flags, is_alone, is_decimal}

-- ---- the number

pub small_abs : (n : ℤ) → FitsSigned w32 n → unsigned_abs n < 2 ^ 64
small_abs (pos n) fits = let f = fits.sfits in omega arith
small_abs (negsuc n) fits = let f = fits.sfits in omega arith

-- ---- the form

both : (a b : Bool) → (a && b) ≡ true → (a ≡ true) × (b ≡ true)
both true b h = (refl, h)
both false b h = absurd (cc h)

without_flags : (left sign alternate space zeros : Bool) → not ((((left || sign) || alternate) || space) || zeros) ≡ true →
    ◌≡◌ {A = Flags} (record { left = left; sign = sign; alternate = alternate; space = space; zero = zeros }) no_flags
without_flags true sign alternate space zeros h = absurd (cc h)
without_flags false true alternate space zeros h = absurd (cc h)
without_flags false false true space zeros h = absurd (cc h)
without_flags false false false true zeros h = absurd (cc h)
without_flags false false false false true h = absurd (cc h)
without_flags false false false false false h = refl

without_precision : (precision : Option ℕ) → is_none precision ≡ true → precision ≡ None
without_precision None h = refl
without_precision (Some size) h = absurd (cc h)

of_decimal : (conversion : Conversion) → is_decimal conversion ≡ true → conversion ≡ Decimal
of_decimal Decimal h = refl
of_decimal Octal h = absurd (cc h)
of_decimal LowerHex h = absurd (cc h)
of_decimal UpperHex h = absurd (cc h)
of_decimal Text h = absurd (cc h)

is_plain : (form : Directive) → is_alone form ≡ true → form ≡ plain_form Decimal
is_plain form h =
    let (three, conversion) = both _ (is_decimal form.conversion) h in
    let (two, precision) = both _ (is_none form.precision) three in
    let (flags, width) = both (not (has_flags form.flags)) (form.width == 0) two in
    let f : form.flags ≡ no_flags =
    without_flags form.flags.left form.flags.sign form.flags.alternate form.flags.space form.flags.zero flags in
    let w : form.width ≡ 0 = (Decides-eqb form.width 0).0 width in
    let p : form.precision ≡ None = without_precision form.precision precision in
    let c : form.conversion ≡ Decimal = of_decimal form.conversion conversion in
    ap (λ x. record { flags = x; width = form.width; precision = form.precision; conversion = form.conversion }) f
    ∙ ap (λ x. record { flags = no_flags; width = x; precision = form.precision; conversion = form.conversion }) w
    ∙ ap (λ x. record { flags = no_flags; width = 0; precision = x; conversion = form.conversion }) p
    ∙ ap (λ x. record { flags = no_flags; width = 0; precision = None; conversion = x }) c

-- ---- the digits

glyph : (d : ℕ) → d < 10 → digit_glyph false d ≡ 48 + d
glyph d small = grind (arith, nat_tests)

glyphs : (ds : List ℕ) → AllBelowBase 10 ds → map (digit_glyph false) ds ≡ map (λ d. 48 + d) ds
glyphs [] small = refl
glyphs (d ∷ ds) small =
    ap (λ x. x ∷ map (digit_glyph false) ds) (glyph d small.0) ∙ ap (λ xs. (48 + d) ∷ xs) (glyphs ds small.1)

digits-decimal : (n : ℕ) → 0 < n → n < 2 ^ 64 → map (digit_glyph false) (digits_of 10 n) ≡ decimal n
digits-decimal n some small = glyphs (digits_of 10 n) (all_below_base_digits_of 10 n (omega arith)) ∙ sym (decimal-digits_of n some small)

-- a number that is not 0 has a digit
one_digit : (n : ℕ) → 0 < n → at_least 1 (map (digit_glyph false) (digits_of 10 n)) ≡ map (digit_glyph false) (digits_of 10 n)
one_digit n some =
    let ds = map (digit_glyph false) (digits_of 10 n) in
    let none : 1 - length ds ≡ 0 =
    omega (arith, length-map (digits_of 10 n) (digit_glyph false), length-digits_of_step 10 n (omega arith) some) in
    ap (λ k. replicate k 48 ++ ds) none

unpadded : (text : List ℕ) → text ≡ replicate (0 - length text) 32 ++ text
unpadded text = let none : 0 - length text ≡ 0 = omega arith in rw none refl

plain_bytes : (number : ℤ) (text : List ℕ) → unsigned_abs number < 2 ^ 64 → signed_decimal number ≡ form_bytes (plain_form Decimal) number text
unfolding form_bytes
plain_bytes (pos zero) text small = decimal_digit 0 (omega arith)
plain_bytes (pos (suc n)) text small =
    let ds = map (digit_glyph false) (digits_of 10 (suc n)) in
    sym (digits-decimal (suc n) (omega arith) small) ∙ sym (one_digit (suc n) (omega arith)) ∙ unpadded (at_least 1 ds)
plain_bytes (negsuc n) text small =
    let ds = map (digit_glyph false) (digits_of 10 (suc n)) in
    ap (λ bs. 45 ∷ bs) (sym (digits-decimal (suc n) (omega arith) small) ∙ sym (one_digit (suc n) (omega arith))) ∙ unpadded (45 ∷ at_least 1 ds)

pub alone_bytes : (form : Directive) (number : ℤ) (text : List ℕ) → unsigned_abs number < 2 ^ 64 → true ≡ is_alone form →
    signed_decimal number ≡ form_bytes form number text
alone_bytes form number text small alone =
    plain_bytes number text small ∙ ap (λ f. form_bytes f number text) (sym (is_plain form (sym alone)))
