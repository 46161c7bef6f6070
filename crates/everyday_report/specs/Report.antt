-- What is reported about a source on standard error (own; the form is that of GNU's compilers): a
-- line for each fault, `FILE:LINE:COLUMN: error: SUBJECT: SENTENCE [CODE]`.
use Rattle.std.specs.Prelude.{ℕ, ◌+◌, ◌-◌, ◌++◌, ◌∷◌, [], ◌&&◌, filter, nat_lt, Bool, true, false, List, codes, slice_get, Option, Some, None}
use Rattle.std.specs.Fmt.{decimal}
use Rattle.std.specs.List.{concat, list_any}
use Rattle.std.specs.Option.{option_map_or}
use Rattle.ti_source.specs.Code.{code_text, is_error}
use Rattle.base_meaning.specs.Report.{lines_before, shown_detail}
use Rattle.user_compiling.specs.Faults.{ExtendedSourceFault, block_of, line_of, of_profile, bad_user_defined, is_error_there}
use Rattle.everyday_report.specs.Places.{Reached, column_and_rest, reached_in, start_of}
use Rattle.everyday_report.specs.Sentences as sentences
use Rattle.everyday_report.specs.Sentences.{sentence}
use Rattle.everyday_report.specs.declared.report.Place.{Place}

-- where something is said: the name of the file, the line and the column
pub record At : Type 0 where
  pub file : List ℕ
  pub line : ℕ
  pub column : ℕ

-- a place in memory, as plain data
abbrev pub place_seen : Place → At
place_seen place = record { file = place.file.now; line = place.line; column = place.column }

-- ---- a line

-- how bad it is
abbrev pub severity : Bool → List ℕ
severity true = codes ": error: "
severity false = codes ": warning: "

-- what it is about, if that is known, as a report shows it
abbrev pub subject_text : Option (List ℕ) → List ℕ
subject_text None = []
subject_text (Some subject) = shown_detail subject ++ codes ": "

-- a line: the place, how bad it is, what it is about, a sentence, and in brackets a code
abbrev pub said : At → Bool → Option (List ℕ) → List ℕ → List ℕ → List ℕ
said place bad subject sentence code =
    concat (place.file ∷ codes ":" ∷ decimal place.line ∷ codes ":" ∷ decimal place.column ∷ severity bad
    ∷ subject_text subject ∷ sentence ∷ codes " [" ∷ code ∷ codes "]\n" ∷ [])

-- the line of a fault at a place
abbrev pub fault_line : At → ExtendedSourceFault → List ℕ
fault_line place (of_profile fault) = said place (is_error fault.code) fault.detail (sentence fault.code) (code_text fault.code)
fault_line place (bad_user_defined block line name) = said place false (Some name) sentences.bad_user_defined (codes "W5 BadUserDefined")

-- ---- the faults of a source

-- the text of the block at a position
abbrev pub text_at : List (List ℕ) → ℕ → List ℕ
text_at texts at = option_map_or (λ text. text) (slice_get texts at) []

-- how far the block at a position was sought, after the fault before, if there is one
abbrev pub reached_at : List (List ℕ) → Option Reached → ℕ → Reached
reached_at texts None at = start_of at (text_at texts at)
reached_at texts (Some last) at = reached_in at (text_at texts at) last

-- the place of a fault at a column of its block, which begins on the line of that number
abbrev pub located : List ℕ → ℕ → ℕ → ExtendedSourceFault → At
located file start column fault = record { file = file; line = start + (line_of fault - 1); column = column }

-- the line of a fault of a block that begins on the line of that number, at a column
abbrev pub line_at : List ℕ → ℕ → ℕ → ExtendedSourceFault → List ℕ
line_at file start column fault = fault_line (located file start column fault) fault

-- whether a fault is of the first blocks, of that many
abbrev pub is_of_first : ℕ → ExtendedSourceFault → Bool
is_of_first count fault = nat_lt (block_of fault) count

-- the lines of faults of a source whose first line has that number, after the fault before, if there
-- is one
abbrev pub lines_after : List ℕ → List (List ℕ) → ℕ → Option Reached → List ExtendedSourceFault → List ℕ
lines_after file texts first before [] = []
lines_after file texts first before (fault ∷ faults) =
    line_at file (first + lines_before texts (block_of fault)) (column_and_rest (reached_at texts before (block_of fault)) fault).0 fault
    ++ lines_after file texts first (Some (column_and_rest (reached_at texts before (block_of fault)) fault).1) faults

-- the lines of those of the faults that are of the first blocks
abbrev pub fault_lines : List ℕ → List (List ℕ) → ℕ → ℕ → List ExtendedSourceFault → List ℕ
fault_lines file texts first count faults = lines_after file texts first None (filter (is_of_first count) faults)

-- whether one of these is an error
abbrev pub has_error : ℕ → List ExtendedSourceFault → Bool
has_error count faults = list_any (λ fault. is_of_first count fault && is_error_there fault) faults
