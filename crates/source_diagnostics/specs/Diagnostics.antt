-- What is wrong with a source, as an editor shows it (own; Language Server Protocol 3.17,
-- "Diagnostic"): the faults of its report, each with what is shown as faulty on its line, its code
-- and a message.
pub use Rattle.source_diagnostics.specs.Marking.{text_at}
use Rattle.std.specs.Fmt.{decimal}
use Rattle.std.specs.Prelude.{◌≡◌, ℕ, ◌+◌, ◌-◌, ◌<◌, ◌≤◌, List, [], ◌∷◌, ◌++◌, codes, length, Option, Some, None, slice_get, if◌then◌else◌}
use Rattle.std.specs.String.{string_bytes}
use Rattle.ti_text.specs.Ascii as ascii
use Rattle.ti_source.specs.declared.code.Code.{Code}
use Rattle.ti_source.specs.declared.code.Code.TheVariants.{MissingUse}
use Rattle.ti_source.specs.Code.{code_name, is_error, label_of}
use Rattle.base_meaning.specs.Owner.{readings}
use Rattle.base_meaning.specs.Faults.{SourceFault, faults}
use Rattle.base_meaning.specs.Compiled.{EntryState}
use Rattle.base_meaning.specs.Report.{detail_text, line_number, lines_before, report_line}
use Rattle.user_values.specs.Limit.{name_count, name_limit}
use Rattle.user_compiling.specs.Entries.{AreStates}
use Rattle.user_compiling.specs.Faults.{ExtendedSourceFault, of_profile, bad_user_defined, block_of, extended_faults, line_of as fault_line}
use Rattle.user_compiling.specs.Report.{extended_line}
use Rattle.tools_sources.specs.Sources.{first_line, source_refusal, source_texts}
use Rattle.tools_sources.specs.declared.source_error.SourceError.{SourceError}
use Rattle.tools_sources.specs.declared.source_error.SourceError.TheVariants as refusal
use Rattle.source_spans.specs.Sentences.{sentence, block_too_long, too_many_blocks}
use Rattle.source_places.specs.LineTexts.{line_of}
use Rattle.source_diagnostics.specs.Marking.{found_for, marked, marked_for}
use Rattle.source_spans.specs.Faulty.{Search}
use Rattle.source_spans.specs.declared.parts.Part.{Part}
use Rattle.source_diagnostics.specs.SourceFaults.{faults_by}
use Rattle.source_diagnostics.specs.declared.capabilities.Capabilities.{Capabilities}
use Rattle.source_diagnostics.specs.declared.capabilities.Capabilities.TheVariants.{Profile, UserDefined}
use Rattle.source_diagnostics.specs.declared.diagnostics.Diagnostic.{Diagnostic}
use Rattle.source_diagnostics.specs.declared.diagnostics.Problem.{Problem}
use Rattle.source_diagnostics.specs.declared.diagnostics.Problem.TheVariants.{Fault, BadUserDefined, BlockTooLong, TooManyBlocks}
use Rattle.source_types.specs.declared.places.Range.{Range}
use Rattle.source_types.specs.declared.severities.Severity.{Severity}
use Rattle.source_types.specs.declared.severities.Severity.TheVariants.{Error, Warning}

-- how bad a problem is
abbrev pub severity_of : Problem → Severity
severity_of (Fault code) = if is_error code then Error else Warning
severity_of BadUserDefined = Warning
severity_of BlockTooLong = Error
severity_of TooManyBlocks = Error

-- the code of a problem
abbrev pub label_of_problem : Problem → List ℕ
label_of_problem (Fault code) = label_of code
label_of_problem BadUserDefined = codes "W5"
label_of_problem BlockTooLong = codes "BlockTooLong"
label_of_problem TooManyBlocks = codes "TooManyBlocks"

-- a diagnostic as plain data: the part of the text that it is about, what is wrong, and what is
-- said about it
pub record Shown : Type 0 where
  pub range : Range
  pub problem : Problem
  pub message : List ℕ

-- a diagnostic that holds its message in memory, as plain data
abbrev pub diagnostic_seen : Diagnostic → Shown
diagnostic_seen d = record { range = d.range; problem = d.problem; message = string_bytes d.message }

-- what is shown on a line of that number
abbrev pub shown_on : ℕ → List ℕ → Problem → List ℕ → Shown
shown_on number line problem message = record { range = marked number line; problem = problem; message = message }

-- what a fault means in a source that may have these capabilities, and a hint: `ti-tic` takes an
-- installed entry where `ti tic` reports that no block has the name of a use
abbrev pub sentence_by : Capabilities → Code → List ℕ
sentence_by UserDefined MissingUse = codes "No block has this name. Correct it, or add the block: only ti-tic takes an installed entry."
sentence_by capabilities code = sentence code

-- what is reported about a fault: its name and the detail as its report shows it, what it means,
-- and a hint
abbrev pub fault_message : Capabilities → Code → Option (List ℕ) → List ℕ
fault_message capabilities code detail = code_name code ++ detail_text detail ++ codes ": " ++ sentence_by capabilities code

-- what an invalid value of a user-defined name means, and a hint
abbrev pub bad_value_sentence : List ℕ
bad_value_sentence = codes "Invalid value of a user-defined capability, so the item is ignored. Correct the number or the string."

-- what is wrong by a fault
abbrev pub problem_of : ExtendedSourceFault → Problem
problem_of (of_profile fault) = Fault fault.code
problem_of (bad_user_defined block line name) = BadUserDefined

-- what is reported about it in a source that may have these capabilities
abbrev pub message_of : Capabilities → ExtendedSourceFault → List ℕ
message_of capabilities (of_profile fault) = fault_message capabilities fault.code fault.detail
message_of capabilities (bad_user_defined block line name) = codes "BadUserDefined" ++ detail_text (Some name) ++ codes ": " ++ bad_value_sentence

-- the number of its line in a source whose first block begins on the line of the number `first`,
-- each counted from 1
abbrev pub number_of : List (List ℕ) → ℕ → ExtendedSourceFault → ℕ
number_of texts first fault = first + lines_before texts (block_of fault) + fault_line fault - 1

-- the diagnostic of a fault that is of a part of its block, in a source that may have these
-- capabilities and whose first block begins on the line of that number, counted from 1
abbrev pub fault_diagnostic : Capabilities → List (List ℕ) → ℕ → Option Part → ExtendedSourceFault → Shown
fault_diagnostic capabilities texts first part fault = record {
  range = marked_for (number_of texts first fault - 1) (text_at texts (block_of fault)) (fault_line fault - 1) part;
  problem = problem_of fault;
  message = message_of capabilities fault;
}

-- the diagnostics of faults, one by one, each with the part that it is of; `last` is the block of the
-- fault before them with what the search for its part left
abbrev pub fault_diagnostics : Capabilities → List (List ℕ) → ℕ → Option (ℕ × Search) → List ExtendedSourceFault → List Shown
fault_diagnostics capabilities texts first last [] = []
fault_diagnostics capabilities texts first last (fault ∷ faults) =
    fault_diagnostic capabilities texts first (found_for texts last fault).0 fault
    ∷ fault_diagnostics capabilities texts first (Some (block_of fault, (found_for texts last fault).1)) faults

-- the diagnostic of a source that is refused, on the line on which the block begins for which it is
abbrev pub refusal_diagnostic : List ℕ → SourceError → Shown
refusal_diagnostic text (refusal.BlockTooLong line) = shown_on (line - 1) (line_of text (line - 1)) BlockTooLong block_too_long
refusal_diagnostic text (refusal.TooManyBlocks line) = shown_on (line - 1) (line_of text (line - 1)) TooManyBlocks too_many_blocks

-- the diagnostics of a source, by its refusal if it has one
abbrev pub diagnostics_unless : Capabilities → List ℕ → Option SourceError → List Shown
diagnostics_unless capabilities text None =
    fault_diagnostics capabilities (source_texts text) (first_line text) None (faults_by capabilities (source_texts text))
diagnostics_unless capabilities text (Some error) = refusal_diagnostic text error ∷ []

-- the diagnostics of a source, by which capabilities it may have
abbrev pub diagnostics_by : Capabilities → List ℕ → List Shown
diagnostics_by capabilities text = diagnostics_unless capabilities text (source_refusal text)

-- those of the profile
abbrev pub diagnostics_of : List ℕ → List Shown
diagnostics_of text = diagnostics_by Profile text

-- ---- the diagnostics are the faults of the report

-- a diagnostic is that of a fault: it has the fault's code, is on the fault's line, which it counts
-- from 0, and says what the report says of the fault, by the name of the code and the detail
pub record IsOfFault (texts : List (List ℕ)) (first : ℕ) (fault : SourceFault) (shown : Shown) : Type 0 where
  pub problem : shown.problem ≡ Fault fault.code
  pub start : shown.range.start.line ≡ line_number texts first fault - 1
  pub end : shown.range.end.line ≡ line_number texts first fault - 1
  pub subject : List ℕ
  pub words : List ℕ
  pub message : shown.message ≡ subject ++ codes ": " ++ words
  pub reported : report_line texts first fault
      ≡ decimal (line_number texts first fault) ++ codes ": " ++ label_of_problem shown.problem ++ codes " " ++ subject ++ ascii.newline ∷ []

-- the diagnostics are those of these faults, one by one and in the same order
pub record AreOfFaults (texts : List (List ℕ)) (first : ℕ) (all : List SourceFault) (shown : List Shown) : Type 0 where
  pub as_many : length shown ≡ length all
  pub each : (at : ℕ) (fault : SourceFault) (diagnostic : Shown) → slice_get all at ≡ Some fault → slice_get shown at ≡ Some diagnostic
      → IsOfFault texts first fault diagnostic

-- the diagnostics of a source that is not refused are those of the faults that its report has
abbrev pub DiagnosticsAreTheFaults : Type 0
DiagnosticsAreTheFaults = (text : List ℕ) → source_refusal text ≡ None
    → AreOfFaults (source_texts text) (first_line text) (faults (readings (source_texts text))) (diagnostics_of text)

-- a diagnostic is that of a fault of a source whose user-defined capabilities are kept: it says what
-- is wrong, is on the fault's line, and says what the report says of the fault
pub record IsOfExtendedFault (texts : List (List ℕ)) (first : ℕ) (fault : ExtendedSourceFault) (shown : Shown) : Type 0 where
  pub problem : shown.problem ≡ problem_of fault
  pub start : shown.range.start.line ≡ number_of texts first fault - 1
  pub end : shown.range.end.line ≡ number_of texts first fault - 1
  pub subject : List ℕ
  pub words : List ℕ
  pub message : shown.message ≡ subject ++ codes ": " ++ words
  pub reported : extended_line texts first fault
      ≡ decimal (number_of texts first fault) ++ codes ": " ++ label_of_problem shown.problem ++ codes " " ++ subject ++ ascii.newline ∷ []

-- the diagnostics are those of these faults, one by one and in the same order
pub record AreOfExtendedFaults (texts : List (List ℕ)) (first : ℕ) (all : List ExtendedSourceFault) (shown : List Shown) : Type 0 where
  pub as_many : length shown ≡ length all
  pub each : (at : ℕ) (fault : ExtendedSourceFault) (diagnostic : Shown) → slice_get all at ≡ Some fault → slice_get shown at ≡ Some diagnostic
      → IsOfExtendedFault texts first fault diagnostic

-- the faults that the profile reports of these blocks
abbrev pub profile_faults : List (List ℕ) → List SourceFault
profile_faults texts = faults (readings texts)

-- with user-defined capabilities the diagnostics of a source that is not refused are those of the
-- faults that `tic -x` reports; of a source with too many user-defined names those of the faults of
-- the profile; with user-defined capabilities and without, a source that is refused has the
-- diagnostic of its refusal
pub record UserDefinedDiagnosticsAreTheFaults : Type 0 where
  pub faults : (text : List ℕ) (states : List EntryState) → source_refusal text ≡ None
      → name_count (source_texts text) (length (source_texts text)) ≤ name_limit → AreStates (source_texts text) states
      → AreOfExtendedFaults (source_texts text) (first_line text) (extended_faults (source_texts text) states) (diagnostics_by UserDefined text)
  pub too_many : (text : List ℕ) → source_refusal text ≡ None → name_limit < name_count (source_texts text) (length (source_texts text))
      → diagnostics_by UserDefined text
      ≡ fault_diagnostics UserDefined (source_texts text) (first_line text) None (faults_by Profile (source_texts text))
  pub too_many_faults : (text : List ℕ) → source_refusal text ≡ None → name_limit < name_count (source_texts text) (length (source_texts text))
      → AreOfFaults (source_texts text) (first_line text) (profile_faults (source_texts text)) (diagnostics_by UserDefined text)
  pub refused : (capabilities : Capabilities) (text : List ℕ) (error : SourceError) → source_refusal text ≡ Some error
      → diagnostics_by capabilities text ≡ refusal_diagnostic text error ∷ []
