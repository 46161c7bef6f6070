-- One token more, for the parameters that a format takes.
use Rattle.std.proofs.Common.{◌≡◌, ℕ, ◌+◌, ◌-◌, Bool, true, false, refl, arith}
use Rattle.std.specs.Prelude.{◌&&◌, ◌||◌, max, min, ◌==◌, ◌≤◌, if◌then◌else◌, suc, slice_index_or, []}
use Rattle.std.proofs.lemmas.Bool.Decides.{nat_tests}
use Rattle.ti_text.specs.Limits.{parameters_max}
use Rattle.ti_formats.specs.declared.taken.Found.{Found}
use Rattle.ti_formats.specs.declared.codes.Code.TheVariants.{Percent, Character, Print, Parameter, Store, Fetch, Constant, Length, Binary, Not, Complement}
use Rattle.ti_formats.specs.declared.codes.Code.TheVariants.{Increment}
use Rattle.ti_formats.specs.declared.codes.Token.{Token}
use Rattle.ti_formats.specs.declared.codes.Token.TheVariants.{Literal, Operation, If, Then, Else, EndIf}
use Rattle.ti_formats.specs.Parameters.{number_named, takes_string, is_plain, named_in, is_string_in, popped_in}
use Rattle.ti_formats.specs.inside.Parameters.{named_with, string_with, popped_with}

pub max-step : (n k m : ℕ) → max (max n k) m ≡ max n (max k m)
max-step n k m = omega arith

or-step : (a b c : Bool) → ((a || b) || c) ≡ (a || (b || c))
or-step true b c = refl
or-step false b c = refl

never : (i : ℕ) → (0 == suc i) ≡ false
never i = grind (arith, nat_tests)

plain-step : (a l b rest : Bool) → (((a || (l && false)) || (l && b)) || rest) ≡ ((a || (l && b)) || ((false && b) || rest))
plain-step true l b rest = refl
plain-step false true true rest = refl
plain-step false true false rest = refl
plain-step false false b rest = refl

-- a token more, which only writes a byte or not, takes a string or not, and names a parameter or none
pub string-step : (plain takes : Bool) (last number i : ℕ) (a b rest : Bool) → (plain ≡ true → takes ≡ false) → (plain ≡ true → number ≡ 0) →
    (((a || (last == suc i && takes)) || ((if plain then last else number) == suc i && b)) || rest)
    ≡ ((a || (last == suc i && (if plain then b else takes))) || ((number == suc i && b) || rest))
string-step true takes last number i a b rest no_string no_number = rw (no_string refl, no_number refl, never i) (plain-step a (last == suc i) b rest)
string-step false takes last number i a b rest no_string no_number = or-step (a || (last == suc i && takes)) (number == suc i && b) rest

-- what only writes a byte takes no string and names no parameter

pub plain-takes : (token : Token) → is_plain token ≡ true → takes_string token ≡ false
plain-takes (Literal b) h = refl
plain-takes (Operation Percent) h = refl
plain-takes (Operation Character) h = absurd (cc h)
plain-takes (Operation (Print form)) h = absurd (cc h)
plain-takes (Operation (Parameter place)) h = absurd (cc h)
plain-takes (Operation (Store variable)) h = absurd (cc h)
plain-takes (Operation (Fetch variable)) h = absurd (cc h)
plain-takes (Operation (Constant n)) h = absurd (cc h)
plain-takes (Operation Length) h = absurd (cc h)
plain-takes (Operation (Binary operator)) h = absurd (cc h)
plain-takes (Operation Not) h = absurd (cc h)
plain-takes (Operation Complement) h = absurd (cc h)
plain-takes (Operation Increment) h = absurd (cc h)
plain-takes If h = absurd (cc h)
plain-takes Then h = absurd (cc h)
plain-takes Else h = absurd (cc h)
plain-takes EndIf h = absurd (cc h)

pub plain-number : (token : Token) → is_plain token ≡ true → number_named token ≡ 0
plain-number (Literal b) h = refl
plain-number (Operation Percent) h = refl
plain-number (Operation Character) h = refl
plain-number (Operation (Print form)) h = refl
plain-number (Operation (Parameter place)) h = absurd (cc h)
plain-number (Operation (Store variable)) h = refl
plain-number (Operation (Fetch variable)) h = refl
plain-number (Operation (Constant n)) h = refl
plain-number (Operation Length) h = refl
plain-number (Operation (Binary operator)) h = refl
plain-number (Operation Not) h = refl
plain-number (Operation Complement) h = refl
plain-number (Operation Increment) h = refl
plain-number If h = refl
plain-number Then h = refl
plain-number Else h = refl
plain-number EndIf h = refl

-- what was popped before, by a token that pops p and pushes q, and by those after it
pub popped-step : (popped p q height n cap : ℕ) →
    min (min (popped + (p - height)) cap + (n - ((height - p) + q))) cap ≡ min (popped + ((p + (n - q)) - height)) cap
popped-step popped p q height n cap = omega arith

-- ---- no token is left

pub named-end : (found : Found) → found.named ≡ named_with found []
unfolding named_in
named-end found = omega arith

pub string-end : (found : Found) (i : ℕ) → slice_index_or found.strings i false ≡ string_with found i []
unfolding is_string_in
string-end found i = ended (slice_index_or found.strings i false) (found.last == suc i)
  where
    ended : (a b : Bool) → a ≡ ((a || (b && false)) || false)
    ended true b = refl
    ended false true = refl
    ended false false = refl

pub popped-end : (found : Found) → found.popped ≤ parameters_max → found.popped ≡ popped_with found []
unfolding popped_in
popped-end found few = omega (arith, few)
