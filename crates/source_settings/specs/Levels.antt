-- How grave something is told, and for which codes that may be settled (own; ti-hints(7) and
-- ti-report(7) have the codes).
use Rattle.std.specs.Prelude.{ℕ, Bool, List, [], ◌∷◌, Option, Some, None, codes, if◌then◌else◌}
use Rattle.std.specs.List.{list_any}
use Rattle.std.specs.Str.{bytes_eq}
use Rattle.source_types.specs.declared.severities.Severity.TheVariants.{Error, Warning, Information, Hint}
use Rattle.source_settings.specs.declared.levels.Level.{Level}
use Rattle.source_settings.specs.declared.levels.Level.TheVariants.{Told, Off}

-- the level of a word
abbrev pub level_of : List ℕ → Option Level
level_of word =
    if bytes_eq word (codes "error") then Some (Told Error)
    else if bytes_eq word (codes "warning") then Some (Told Warning)
    else if bytes_eq word (codes "information") then Some (Told Information)
    else if bytes_eq word (codes "hint") then Some (Told Hint)
    else if bytes_eq word (codes "off") then Some Off
    else None

-- a word is one of these
abbrev pub is_one_of : List (List ℕ) → List ℕ → Bool
is_one_of words word = list_any (bytes_eq word) words

-- the codes of hints and of warnings
abbrev pub settled_codes : List (List ℕ)
settled_codes =
    codes "N1" ∷ codes "N2" ∷ codes "N3" ∷ codes "N4" ∷ codes "N5" ∷ codes "N6" ∷ codes "N7" ∷ codes "N8"
    ∷ codes "W1" ∷ codes "W2" ∷ codes "W3" ∷ codes "W4" ∷ codes "W5" ∷ []

-- those of errors
abbrev pub error_codes : List (List ℕ)
error_codes =
    codes "E1" ∷ codes "E2" ∷ codes "E3" ∷ codes "E4" ∷ codes "E5" ∷ codes "E6" ∷ codes "E7" ∷ codes "E8" ∷ codes "E9" ∷ []

-- a code is one whose severity may be settled
abbrev pub is_settled_code : List ℕ → Bool
is_settled_code code = is_one_of settled_codes code

-- a code is that of an error
abbrev pub is_error_code : List ℕ → Bool
is_error_code code = is_one_of error_codes code
