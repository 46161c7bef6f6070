-- What is wrong with a source some of whose used names are installed (own; tic(1), "use=": an entry
-- that the source does not have is looked for among those that are installed).
use Rattle.std.specs.Prelude.{ℕ, Bool, false, true, List, [], ◌∷◌, if◌then◌else◌, map}
use Rattle.std.specs.List.{list_any}
use Rattle.source_types.specs.declared.places.Range.{Range}
use Rattle.source_diagnostics.specs.Diagnostics.{Shown, diagnostic_seen, diagnostics_by}
use Rattle.source_diagnostics.specs.declared.capabilities.Capabilities.TheVariants.{UserDefined}
use Rattle.source_diagnostics.specs.declared.diagnostics.Problem.{Problem}
use Rattle.source_diagnostics.specs.declared.diagnostics.Problem.TheVariants.{BlockTooLong, TooManyBlocks}
use Rattle.source_installed.specs.Completed.{completed}
use Rattle.source_installed.specs.Missed.{missed_names, missed_uses}
use Rattle.source_installed.specs.declared.findings.Findings.{Findings}

-- whether a problem is one for which a whole source is refused
abbrev pub is_refusal : Problem → Bool
is_refusal BlockTooLong = true
is_refusal TooManyBlocks = true
is_refusal _ = false

-- whether a source with these diagnostics is refused
abbrev pub refuses : List Shown → Bool
refuses all = list_any (λ shown. is_refusal shown.problem) all

-- what is wrong with a source, and where it uses installed names
pub record Found : Type 0 where
  pub faults : List Shown
  pub uses : List Range

-- what holds its parts in memory, as plain data
abbrev pub findings_seen : Findings → Found
findings_seen found = record { faults = map diagnostic_seen found.faults.items; uses = found.uses.items }

-- with the diagnostics `more` that the source has with the names which it misses
abbrev pub found_with : List Shown → List (List ℕ) → List Shown → Found
found_with all names more =
    if refuses more then record { faults = all; uses = [] } else record { faults = more; uses = missed_uses names all }

-- what is wrong with a text that has these diagnostics and misses these names: what is wrong with the
-- text that has a block of each of them, unless that is refused
abbrev pub found_in : List ℕ → List Shown → List (List ℕ) → Found
found_in text all [] = record { faults = all; uses = [] }
found_in text all (name ∷ names) = found_with all (name ∷ names) (diagnostics_by UserDefined (completed text (name ∷ names)))

-- the text that is kept for the next time: the one with a block of each of these names, else what was
-- kept before
abbrev pub kept_text : List ℕ → List (List ℕ) → List ℕ → List ℕ
kept_text text [] before = before
kept_text text (name ∷ names) before = completed text (name ∷ names)

-- what is wrong with a text where these names are installed
abbrev pub findings_of : List (List ℕ) → List ℕ → Found
findings_of installed text =
    found_in text (diagnostics_by UserDefined text) (missed_names installed (diagnostics_by UserDefined text))

-- the text that is kept, where these names are installed
abbrev pub kept_of : List (List ℕ) → List ℕ → List ℕ → List ℕ
kept_of installed text before = kept_text text (missed_names installed (diagnostics_by UserDefined text)) before
