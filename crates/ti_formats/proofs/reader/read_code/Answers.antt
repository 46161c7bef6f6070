-- A conversion alone is a printf form.
use Rattle.std.proofs.Common.{◌≡◌, ℕ, List, ◌∷◌, ap, sym, ◌∙◌, refl}
use Rattle.std.specs.Prelude.{Some}
use Rattle.ti_formats.specs.declared.codes.Code.{Code}
use Rattle.ti_formats.specs.declared.codes.Code.TheVariants.{Print}
use Rattle.ti_printing.specs.declared.printf.Conversion.{Conversion}
use Rattle.ti_printing.specs.declared.printf.Conversion.TheVariants.{Decimal, Octal, LowerHex, UpperHex, Text}
use Rattle.ti_formats.specs.inside.Codes.{Front, code_of, plain_form, token_after, directive_after, flags_after, precision_after, directive_with}
use Rattle.ti_formats.proofs.reader.read_code.Goals as goal

-- a letter that is read as a conversion, at the front of a text
plain_read : (text rest : List ℕ) (code : Code) (x y : ℕ) (conversion : Conversion) → code ≡ Print (plain_form conversion) → text ≡ x ∷ rest → x ≡ y →
    code_of (token_after (y ∷ rest)) ≡ Some (Print (plain_form conversion), rest) → ◌≡◌ {A = Front Code} (Some (code, rest)) (code_of (token_after text))
plain_read text rest code x y conversion made begins letter read =
    ap (λ c. Some (c, rest)) made ∙ sym (ap (λ t. code_of (token_after t)) (begins ∙ ap (λ z. z ∷ rest) letter) ∙ read)

decimal_read : (rest : List ℕ) → code_of (token_after (100 ∷ rest)) ≡ Some (Print (plain_form Decimal), rest)
unfolding token_after directive_after flags_after precision_after directive_with
decimal_read rest = refl

pub returns-in-100 : goal.returns-in-100
returns-in-100 c = plain_read _ _ _ _ 100 Decimal c.plain_form.ensures c.in_ok-letter.ensures.cases.0 c.in-100.is (decimal_read _)

text_read : (rest : List ℕ) → code_of (token_after (115 ∷ rest)) ≡ Some (Print (plain_form Text), rest)
unfolding token_after directive_after flags_after precision_after directive_with
text_read rest = refl

pub returns-in-115 : goal.returns-in-115
returns-in-115 c = plain_read _ _ _ _ 115 Text c.plain_form-in-115.ensures c.in_ok-letter.ensures.cases.0 c.in-115.is (text_read _)

octal_read : (rest : List ℕ) → code_of (token_after (111 ∷ rest)) ≡ Some (Print (plain_form Octal), rest)
unfolding token_after directive_after flags_after precision_after directive_with
octal_read rest = refl

pub returns-in-111 : goal.returns-in-111
returns-in-111 c = plain_read _ _ _ _ 111 Octal c.plain_form-in-111.ensures c.in_ok-letter.ensures.cases.0 c.in-111.is (octal_read _)

lower_read : (rest : List ℕ) → code_of (token_after (120 ∷ rest)) ≡ Some (Print (plain_form LowerHex), rest)
unfolding token_after directive_after flags_after precision_after directive_with
lower_read rest = refl

pub returns-in-120 : goal.returns-in-120
returns-in-120 c = plain_read _ _ _ _ 120 LowerHex c.plain_form-in-120.ensures c.in_ok-letter.ensures.cases.0 c.in-120.is (lower_read _)

upper_read : (rest : List ℕ) → code_of (token_after (88 ∷ rest)) ≡ Some (Print (plain_form UpperHex), rest)
unfolding token_after directive_after flags_after precision_after directive_with
upper_read rest = refl

pub returns-in-88 : goal.returns-in-88
returns-in-88 c = plain_read _ _ _ _ 88 UpperHex c.plain_form-in-88.ensures c.in_ok-letter.ensures.cases.0 c.in-88.is (upper_read _)
