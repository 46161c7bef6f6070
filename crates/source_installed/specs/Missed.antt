-- Which installed names a source uses that no block of it has (tic(1), "use="; own).
use Rattle.std.specs.Prelude.{ℕ, ◌&&◌, Bool, false, true, List, [], ◌∷◌, Some, if◌then◌else◌, map}
use Rattle.std.specs.List.{flat_map, list_any}
use Rattle.std.specs.Str.{bytes_eq}
use Rattle.ti_source.specs.declared.code.Code.TheVariants.{MissingUse}
use Rattle.source_types.specs.declared.places.Range.{Range}
use Rattle.source_diagnostics.specs.Diagnostics.{Shown, fault_message}
use Rattle.source_diagnostics.specs.declared.capabilities.Capabilities.TheVariants.{UserDefined}
use Rattle.source_diagnostics.specs.declared.diagnostics.Problem.{Problem}
use Rattle.source_diagnostics.specs.declared.diagnostics.Problem.TheVariants.{Fault}

-- whether a problem is that no block has a name that is used
abbrev pub is_missing : Problem → Bool
is_missing (Fault MissingUse) = true
is_missing _ = false

-- what is said where a name is used that no block has
abbrev pub missing_message : List ℕ → List ℕ
missing_message name = fault_message UserDefined MissingUse (Some name)

-- whether a diagnostic is of a use for which that is said
abbrev pub misses : List ℕ → Shown → Bool
misses message shown = is_missing shown.problem && bytes_eq shown.message message

-- whether one of diagnostics is of a use of that name, which no block has
abbrev pub is_missed_by : List Shown → List ℕ → Bool
is_missed_by all name = list_any (misses (missing_message name)) all

-- a name, if one of diagnostics is of a use of it, which no block has
abbrev pub if_missed : List Shown → List ℕ → List (List ℕ)
if_missed all name = if is_missed_by all name then name ∷ [] else []

-- the installed names that a source with these diagnostics uses, and that no block of it has
abbrev pub missed_names : List (List ℕ) → List Shown → List (List ℕ)
missed_names installed all = if list_any (λ shown. is_missing shown.problem) all then flat_map (if_missed all) installed else []

-- whether a diagnostic is of a use for which one of these is said
abbrev pub misses_one : List (List ℕ) → Shown → Bool
misses_one messages shown = list_any (λ message. misses message shown) messages

-- where a diagnostic is shown, if it is of a use for which one of these is said
abbrev pub if_said : List (List ℕ) → Shown → List Range
if_said messages shown = if misses_one messages shown then shown.range ∷ [] else []

-- where a source with these diagnostics uses these names, if no block of it has them
abbrev pub missed_uses : List (List ℕ) → List Shown → List Range
missed_uses names all = flat_map (if_said (map missing_message names)) all
