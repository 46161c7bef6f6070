-- The report of a source's faults (own), a line each: the line's number in the whole source, the
-- code and its name, and the detail if there is one.
use Rattle.std.specs.Prelude.{ℕ, ◌+◌, ◌-◌, List, [], ◌∷◌, ◌++◌, codes, take, map, sum_by, Option, Some, None, ◌&&◌, nat_le, if◌then◌else◌}
use Rattle.std.specs.Fmt.{decimal}
use Rattle.std.specs.List.{flat_map}
use Rattle.ti_text.specs.Ascii as ascii
use Rattle.ti_text.specs.Lines.{line_count}
use Rattle.ti_source.specs.declared.code.Code.{Code}
use Rattle.ti_source.specs.Code.{code_text}
use Rattle.ti_source.specs.declared.parsing.Rule.{Rule}
use Rattle.ti_source.specs.declared.parsing.Rule.TheVariants.{Leftmost}
use Rattle.base_meaning.specs.Readings.{readings_by}
use Rattle.base_meaning.specs.Faults.{SourceFault, faults}

-- a byte of a detail as it is shown: itself if it prints, else a question mark
abbrev pub shown_byte : ℕ → ℕ
shown_byte byte = if nat_le ascii.exclamation_mark byte && nat_le byte ascii.tilde then byte else ascii.question_mark

-- a detail as it is shown after its space; an empty one is a hyphen
abbrev pub shown_detail : List ℕ → List ℕ
shown_detail [] = ascii.minus ∷ []
shown_detail (byte ∷ bytes) = map shown_byte (byte ∷ bytes)

-- a detail with a space before it, nothing if there is none
abbrev pub detail_text : Option (List ℕ) → List ℕ
detail_text None = []
detail_text (Some detail) = ascii.space ∷ shown_detail detail

-- the line of a fault on the line of that number
abbrev pub fault_line : ℕ → Code → Option (List ℕ) → List ℕ
fault_line number code detail = decimal number ++ codes ": " ++ code_text code ++ detail_text detail ++ ascii.newline ∷ []

-- the lines of the texts before that position
abbrev pub lines_before : List (List ℕ) → ℕ → ℕ
lines_before texts at = sum_by line_count (take at texts)

-- the number of a fault's line if the first line of the source has the number `first`
abbrev pub line_number : List (List ℕ) → ℕ → SourceFault → ℕ
line_number texts first fault = first + lines_before texts fault.block + fault.line - 1

-- the report's line of a fault
abbrev pub report_line : List (List ℕ) → ℕ → SourceFault → List ℕ
report_line texts first fault = fault_line (line_number texts first fault) fault.code fault.detail

-- the report of a source that is read by a rule, given by the texts of its blocks
abbrev pub report_by : Rule → List (List ℕ) → ℕ → List ℕ
report_by rule texts first = flat_map (report_line texts first) (faults (readings_by rule texts))

-- the report of a source that is read by the rule `Leftmost`
abbrev pub report : List (List ℕ) → ℕ → List ℕ
report texts first = report_by Leftmost texts first
