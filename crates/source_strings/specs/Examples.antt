-- What a string gives for example parameters (own): terminfo(5), "Parameterized Strings".
use Rattle.std.specs.Prelude.{ℕ, ◌+◌, ◌==◌, pos, min, List, [], ◌∷◌, ◌++◌, codes, count_by, replicate, take, Option, None, Some, if◌then◌else◌}
use Rattle.std.specs.Fmt.{signed_decimal}
use Rattle.std.specs.Str.{bytes_eq}
use Rattle.ti_text.specs.Ascii as ascii
use Rattle.ti_text.specs.Limits.{parameters_max}
use Rattle.ti_param.specs.Meaning.{FormatArgument, no_variables, number, text}
use Rattle.ti_param.specs.inside.Expansion.{Expansion, bad_format, expanded, format_expansion, stack_full}
use Rattle.source_strings.specs.Spelled.{spelled}

-- ---- parameters

-- two parameters; the others are not given
abbrev pub two : FormatArgument → FormatArgument → List FormatArgument
two first second = first ∷ second ∷ replicate 7 (number (pos 0))

-- a parameter that is a number
abbrev pub numeral : ℕ → FormatArgument
numeral n = number (pos n)

-- a parameter that is a string
abbrev pub word : FormatArgument
word = text (codes "abc")

-- The parameters of an example, by the names of those that a capability takes: row 4, column 9, a
-- count of 5, the character a, and the string abc; else 1 for each, as the color red.
abbrev pub samples_for : List ℕ → List FormatArgument
samples_for parameters =
    if bytes_eq parameters (codes "row, column") then two (numeral 4) (numeral 9)
    else (if bytes_eq parameters (codes "row") then two (numeral 4) (numeral 0)
    else (if bytes_eq parameters (codes "column") then two (numeral 9) (numeral 0)
    else (if bytes_eq parameters (codes "count") then two (numeral 5) (numeral 0)
    else (if bytes_eq parameters (codes "first row, last row") then two (numeral 4) (numeral 9)
    else (if bytes_eq parameters (codes "character, count") then two (numeral 97) (numeral 5)
    else (if bytes_eq parameters (codes "key, text") then two (numeral 1) word
    else (if bytes_eq parameters (codes "label, text") then two (numeral 1) word
    else (if bytes_eq parameters (codes "number") then two word (numeral 0)
    else replicate 9 (numeral 1)))))))))

-- how many parameters names with commas between them are of, at most nine
abbrev pub parameter_count : List ℕ → ℕ
parameter_count parameters = min (count_by (λ byte. byte == ascii.comma) parameters + 1) parameters_max

-- ---- as they are shown

-- a number in decimal; a string is that of the examples
abbrev pub sample_text : FormatArgument → List ℕ
sample_text (number n) = signed_decimal n
sample_text (text t) = codes "abc"

-- parameters, each after a comma
abbrev pub later_samples : List FormatArgument → List ℕ
later_samples [] = []
later_samples (sample ∷ samples) = codes ", " ++ (sample_text sample ++ later_samples samples)

-- parameters, with commas between them
abbrev pub samples_text : List FormatArgument → List ℕ
samples_text [] = []
samples_text (sample ∷ samples) = sample_text sample ++ later_samples samples

-- ---- the line

-- a line with the name of a capability, parameters, and what is given
abbrev pub example_given : List ℕ → List ℕ → List ℕ → List ℕ
example_given name shown given = codes "\nExample: " ++ (name ++ (codes " of " ++ (shown ++ (codes ": " ++ given))))

-- the same, if anything is given
abbrev pub given_line : List ℕ → List ℕ → Option (List ℕ) → List ℕ
given_line name shown None = []
given_line name shown (Some given) = example_given name shown given

-- what is said if the stack is full
abbrev pub full_stack : List ℕ
full_stack = codes "nothing, since the stack is full"

-- what an expansion gives, as a source spells it; nothing, if the string is no format
abbrev pub given_by : Expansion → Option (List ℕ)
given_by (expanded output statics) = Some (spelled output)
given_by (bad_format place) = None
given_by (stack_full place) = Some full_stack

-- what a string gives for parameters
abbrev pub given_for : List ℕ → List FormatArgument → Option (List ℕ)
given_for format samples = given_by (format_expansion format samples no_variables)

-- a line with what the string of a capability gives for these parameters, of which as many are
-- shown as the capability takes
abbrev pub example_of : List ℕ → List ℕ → List ℕ → List FormatArgument → List ℕ
example_of name parameters format samples =
    given_line name (samples_text (take (parameter_count parameters) samples)) (given_for format samples)

-- a line with what the string of a capability gives for example parameters
abbrev pub example_line : List ℕ → List ℕ → List ℕ → List ℕ
example_line name parameters format = example_of name parameters format (samples_for parameters)
