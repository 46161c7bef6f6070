-- The words of a command as the parameters of a string (tput(1)), and how many a string takes.
use Rattle.std.specs.Prelude.{ℕ, max, Bool, true, false, ◌||◌, if◌then◌else◌, List, [], ◌∷◌, slice_get, slice_index_or, Option, Some, None, unwrap_or, pos}
use Rattle.ti_formats.specs.declared.taken.TakenParameters.{TakenParameters}
use Rattle.ti_param.specs.Meaning.{FormatArgument, number, text}
use Rattle.tools_tput.specs.Parameters.{is_text_parameter}
use Rattle.everyday_tput.specs.Numbers.{word_number}

-- ---- how many

-- how many words pfkey, pfloc, pfx, pln and pfxl take at least, whatever their strings are: up to
-- the last that is always a string
abbrev pub least_words : List ℕ → ℕ
least_words cap = if is_text_parameter cap 2 then 3 else if is_text_parameter cap 1 then 2 else 0

-- how many words the string of a capability takes: those whose parameters it names, and, as strings
-- of termcap do, those that it pops and does not push
abbrev pub words_by : List ℕ → TakenParameters → ℕ
words_by cap taken = max (least_words cap) (max taken.named taken.popped)

-- ---- what they are

-- whether the word at an index is a string: the capability has a string there, or its format does
abbrev pub is_text_at : List ℕ → List Bool → ℕ → Bool
is_text_at cap strings index = is_text_parameter cap index || slice_index_or strings index false

-- a word as a string or as a number; one that is missing is empty, or 0
abbrev pub argument : Bool → Option (List ℕ) → FormatArgument
argument true word = text (unwrap_or word [])
argument false None = number (pos 0)
argument false (Some word) = number (word_number word)

-- the parameter at an index
abbrev pub argument_at : List ℕ → List Bool → List (List ℕ) → ℕ → FormatArgument
argument_at cap strings words index = argument (is_text_at cap strings index) (slice_get words index)

-- the nine parameters that the words after a capability's name are, given which its format takes as
-- strings
unfoldable pub arguments : List ℕ → List Bool → List (List ℕ) → List FormatArgument
arguments cap strings words =
    argument_at cap strings words 0 ∷ argument_at cap strings words 1 ∷ argument_at cap strings words 2 ∷ argument_at cap strings words 3
    ∷ argument_at cap strings words 4 ∷ argument_at cap strings words 5 ∷ argument_at cap strings words 6 ∷ argument_at cap strings words 7
    ∷ argument_at cap strings words 8 ∷ []
