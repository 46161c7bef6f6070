-- What an expansion returns to C: terminfo(5), "Parameterized Strings".
use Rattle.std.specs.Prelude.{◌≡◌, ◌<◌, ◌==◌, ℕ, ℤ, pos, List, [], ◌∷◌, length, if◌then◌else◌, option_map, unwrap_or, slice_get}
use Rattle.ti_param.specs.Expansion.{Expands}
use Rattle.ti_param.specs.Meaning.{FormatArgument, number, text}
use Rattle.ti_c.specs.Answers.{IsWritten}
use Rattle.ti_c.specs.declared.expanding.Parameter.{Parameter}

-- a parameter: a number if its kind is 0, else a string
abbrev pub given_argument : Parameter → FormatArgument
given_argument p = if p.kind == 0 then number p.number else text p.text.now

-- the parameter at a place, the number 0 if none is given
abbrev pub argument_at : List Parameter → ℕ → FormatArgument
argument_at params place = unwrap_or (option_map given_argument (slice_get params place)) (number (pos 0))

-- the nine parameters
unfoldable pub arguments_of : List Parameter → List FormatArgument
arguments_of params =
    argument_at params 0 ∷ argument_at params 1 ∷ argument_at params 2 ∷ argument_at params 3 ∷ argument_at params 4
    ∷ argument_at params 5 ∷ argument_at params 6 ∷ argument_at params 7 ∷ argument_at params 8 ∷ []

-- the bytes of the expansion were written, this many, and the variables are as it leaves them
abbrev pub IsExpanded : List ℕ → List FormatArgument → (variables after : List ℤ) → (room written : List ℕ) → ℕ → Type 0
IsExpanded format arguments variables after room written size =
    (output : List ℕ) × Expands format arguments variables output after × (size ≡ length output) × IsWritten output room written

-- there is an expansion of this many bytes, which is more than the room has
abbrev pub IsTooLong : List ℕ → List FormatArgument → List ℤ → List ℕ → ℕ → Type 0
IsTooLong format arguments variables room size =
    (output : List ℕ) × (after : List ℤ) × Expands format arguments variables output after × (size ≡ length output) × (length room < size)
