-- The report of a source whose user-defined capabilities are kept (own): a line for each fault, as in
-- the profile.
use Rattle.std.specs.Prelude.{ℕ, ◌+◌, ◌-◌, List, ◌∷◌, ◌++◌, [], codes, Some}
use Rattle.std.specs.Fmt.{decimal}
use Rattle.std.specs.List.{flat_map}
use Rattle.ti_text.specs.Ascii as ascii
use Rattle.ti_source.specs.declared.parsing.Rule.{Rule}
use Rattle.ti_source.specs.declared.parsing.Rule.TheVariants.{Leftmost}
use Rattle.base_meaning.specs.Compiled.{EntryState}
use Rattle.base_meaning.specs.Report.{detail_text, lines_before, report_line}
use Rattle.base_meaning.specs.Usable.{IsPlaced, IsLine}
use Rattle.std.specs.Prelude.{◌<◌}
use Rattle.user_compiling.specs.Faults.{ExtendedSourceFault, of_profile, bad_user_defined, extended_faults_by}

-- the line of W5 on the line of that number
abbrev pub bad_line : ℕ → List ℕ → List ℕ
bad_line number name = decimal number ++ codes ": W5 BadUserDefined" ++ detail_text (Some name) ++ ascii.newline ∷ []

-- the report's line of a fault, if the first line of the source has the number `first`
abbrev pub extended_line : List (List ℕ) → ℕ → ExtendedSourceFault → List ℕ
extended_line texts first (of_profile f) = report_line texts first f
extended_line texts first (bad_user_defined block line name) = bad_line (first + lines_before texts block + line - 1) name

-- the report of a source that is read by a rule, of whose blocks this becomes
abbrev pub extended_report_by : Rule → List (List ℕ) → List EntryState → ℕ → List ℕ
extended_report_by rule texts states first = flat_map (extended_line texts first) (extended_faults_by rule texts states)

-- the same of a source that is read by the rule `Leftmost`
abbrev pub extended_report : List (List ℕ) → List EntryState → ℕ → List ℕ
extended_report texts states first = extended_report_by Leftmost texts states first

-- a fault is in one of the given number of blocks, on a line that a text can have
abbrev pub IsExtendedPlaced : ℕ → ExtendedSourceFault → Type 0
IsExtendedPlaced blocks (of_profile f) = IsPlaced blocks f
IsExtendedPlaced blocks (bad_user_defined block line name) = (block < blocks) × IsLine line
