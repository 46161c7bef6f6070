-- How many errors, warnings and hints there are, and which are bad (own).
use Rattle.std.specs.Prelude.{ℕ, ◌==◌, ◌++◌, [], Bool, true, false, List, codes, count_by, if◌then◌else◌}
use Rattle.std.specs.Fmt.{decimal}
use Rattle.source_types.specs.declared.severities.Severity.{Severity}
use Rattle.source_types.specs.declared.severities.Severity.TheVariants.{Error, Warning, Information, Hint}

-- whether it is an error
abbrev pub is_error : Severity → Bool
is_error Error = true
is_error _ = false

-- whether it is a warning
abbrev pub is_warning : Severity → Bool
is_warning Warning = true
is_warning _ = false

-- whether it is a hint, or information: both are counted as hints
abbrev pub is_hint : Severity → Bool
is_hint Information = true
is_hint Hint = true
is_hint _ = false

-- so many of what has that name: `1 error`, `2 errors`
abbrev pub counted : ℕ → List ℕ → List ℕ
counted count name = decimal count ++ codes " " ++ name ++ (if count == 1 then [] else codes "s")

-- how many hints there are, if there are any
abbrev pub hints_counted : ℕ → List ℕ
hints_counted count = if count == 0 then [] else codes ", " ++ counted count (codes "hint")

-- `2 errors, 1 warning in 1 file`, and `2 errors, 1 warning, 1 hint in 1 file`
abbrev pub summary : List Severity → ℕ → List ℕ
summary severities files =
    counted (count_by is_error severities) (codes "error") ++ codes ", " ++ counted (count_by is_warning severities) (codes "warning")
    ++ hints_counted (count_by is_hint severities) ++ codes " in " ++ counted files (codes "file") ++ codes "\n"

-- whether it is bad: an error, or, if warnings are as bad, a warning
abbrev pub is_bad : Bool → Severity → Bool
is_bad strict Error = true
is_bad strict Warning = strict
is_bad strict _ = false
