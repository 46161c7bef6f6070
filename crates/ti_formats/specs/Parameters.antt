-- Which parameters a format takes, by its tokens: terminfo(5), "Parameterized Strings". The manual
-- does not say which are strings, nor how many a format takes; this does (own).
use Rattle.std.specs.Prelude.{◌≡◌, ℕ, suc, ◌+◌, ◌-◌, ◌<◌, max, min, Bool, true, false, ◌&&◌, ◌||◌, ◌==◌, if◌then◌else◌, List, [], ◌∷◌, slice_index_or}
use Rattle.ti_text.specs.Limits.{parameters_max}
use Rattle.ti_formats.specs.declared.codes.Code.{Code}
use Rattle.ti_formats.specs.declared.codes.Code.TheVariants.{Percent, Character, Print, Parameter, Store, Fetch, Constant, Length, Binary, Not, Complement}
use Rattle.ti_formats.specs.declared.codes.Code.TheVariants.{Increment}
use Rattle.ti_formats.specs.declared.codes.Placed.{Placed}
use Rattle.ti_formats.specs.declared.codes.Token.{Token}
use Rattle.ti_formats.specs.declared.codes.Token.TheVariants.{Literal, Operation, If, Then, Else, EndIf}
use Rattle.ti_formats.specs.declared.taken.TakenParameters.{TakenParameters}
use Rattle.ti_formats.specs.Formats.{FormatTree, IsTree}
use Rattle.ti_printing.specs.declared.printf.Conversion.{Conversion}
use Rattle.ti_printing.specs.declared.printf.Conversion.TheVariants.{Decimal, Octal, LowerHex, UpperHex, Text}

-- ---- parameters that are named

-- the number of the parameter that a token pushes, 0 if it pushes none
abbrev pub number_named : Token → ℕ
number_named (Operation (Parameter place)) = suc place
number_named token = 0

-- the greatest number of a `%p1` to `%p9`, 0 if there is none
unfoldable pub named_in : List Placed → ℕ
named_in [] = 0
named_in (p ∷ tokens) = max (number_named p.token) (named_in tokens)

-- ---- strings

-- whether a conversion is `s`
abbrev pub is_text : Conversion → Bool
is_text Decimal = false
is_text Octal = false
is_text LowerHex = false
is_text UpperHex = false
is_text Text = true

-- whether a token takes a string: `%s`, with or without flags, width and precision, and `%l`
abbrev pub takes_string : Token → Bool
takes_string (Operation Length) = true
takes_string (Operation (Print form)) = is_text form.conversion
takes_string token = false

-- whether a token only writes a byte: a byte of the format, or `%%`
abbrev pub is_plain : Token → Bool
is_plain (Literal b) = true
is_plain (Operation Percent) = true
is_plain token = false

-- whether the first token that does not only write a byte takes a string
abbrev pub begins_with_taker : List Placed → Bool
begins_with_taker [] = false
begins_with_taker (p ∷ tokens) = if is_plain p.token then begins_with_taker tokens else takes_string p.token

-- whether the parameter at a place is a string: somewhere a token that takes one comes after the
-- token that pushes the parameter, and only bytes are written between them
unfoldable pub is_string_in : ℕ → List Placed → Bool
is_string_in i [] = false
is_string_in i (p ∷ tokens) = (number_named p.token == suc i && begins_with_taker tokens) || is_string_in i tokens

-- ---- the stack

-- how many values a code pops
abbrev pub popped_by_code : Code → ℕ
popped_by_code Percent = 0
popped_by_code Character = 1
popped_by_code (Print form) = 1
popped_by_code (Parameter place) = 0
popped_by_code (Store variable) = 1
popped_by_code (Fetch variable) = 0
popped_by_code (Constant n) = 0
popped_by_code Length = 1
popped_by_code (Binary operator) = 2
popped_by_code Not = 1
popped_by_code Complement = 1
popped_by_code Increment = 0

-- how many values a code pushes
abbrev pub pushed_by_code : Code → ℕ
pushed_by_code Percent = 0
pushed_by_code Character = 0
pushed_by_code (Print form) = 0
pushed_by_code (Parameter place) = 1
pushed_by_code (Store variable) = 0
pushed_by_code (Fetch variable) = 1
pushed_by_code (Constant n) = 1
pushed_by_code Length = 1
pushed_by_code (Binary operator) = 1
pushed_by_code Not = 1
pushed_by_code Complement = 1
pushed_by_code Increment = 0

-- how many values a token pops; a `%t` pops what is tested
abbrev pub popped_by : Token → ℕ
popped_by (Literal b) = 0
popped_by (Operation c) = popped_by_code c
popped_by If = 0
popped_by Then = 1
popped_by Else = 0
popped_by EndIf = 0

-- how many values a token pushes
abbrev pub pushed_by : Token → ℕ
pushed_by (Literal b) = 0
pushed_by (Operation c) = pushed_by_code c
pushed_by If = 0
pushed_by Then = 0
pushed_by Else = 0
pushed_by EndIf = 0

-- how many values have to be on the stack before these tokens, so that it is not empty when one
-- pops, if they are all run in order
unfoldable pub popped_in : List Placed → ℕ
popped_in [] = 0
popped_in (p ∷ tokens) = popped_by p.token + (popped_in tokens - pushed_by p.token)

-- ---- a format

-- the format has a tree, and its tokens take these parameters
pub record TakesParameters (format : List ℕ) (taken : TakenParameters) : Type 0 where
  pub tree : FormatTree
  pub is_tree : IsTree format tree
  pub named : taken.named ≡ named_in is_tree.tokens
  pub strings : (i : ℕ) → i < parameters_max → slice_index_or taken.strings i false ≡ is_string_in i is_tree.tokens
  pub popped : taken.popped ≡ min (popped_in is_tree.tokens) parameters_max
