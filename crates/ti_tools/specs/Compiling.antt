-- What tic makes of a source (tic(1); the status is own): files, a report, and a status.
use Rattle.std.specs.Prelude.{◌≡◌, ◌⊎◌, ℕ, Bool, List, [], Result, Ok, Err, if◌then◌else◌}
use Rattle.std.specs.List.{list_any}
use Rattle.ti_source.specs.Code.{is_error}
use Rattle.base_meaning.specs.Owner.{readings}
use Rattle.base_meaning.specs.Faults.{SourceFault, faults}
use Rattle.base_meaning.specs.Report.{report}
use Rattle.ti_tools.specs.EntryFiles.{source_files}
use Rattle.tools_devices.specs.Placing.{entries}
use Rattle.tools_sources.specs.Sources.{AreTaken, first_line, source_texts}
use Rattle.ti_tools.specs.Sources.{IsToldRefusal}
use Rattle.tools_devices.specs.Tree.{FileAt}
use Rattle.ti_tools.specs.declared.outcome.TicOutcome.{TicOutcome}
use Rattle.tools_devices.specs.declared.tool_error.ToolError.{ToolError}
use Rattle.tools_devices.specs.declared.tool_error.ToolError.TheVariants.{Memory}

-- what comes of a source, as plain data
pub record Compilation : Type 0 where
  pub files : List FileAt
  pub report : List ℕ
  pub status : ℕ

-- 1 if one of the faults is an error, else 0
abbrev pub fault_status : List SourceFault → ℕ
fault_status found = if list_any (λ (fault : SourceFault). is_error fault.code) found then 1 else 0

-- what comes of a source of these blocks, whose first line has that number
abbrev pub compilation : Bool → List ℕ → ℕ → List (List ℕ) → Compilation
compilation check dir first texts = record {
  files = if check then [] else source_files dir texts;
  report = report texts first;
  status = fault_status (faults (readings texts));
}

-- an outcome that holds files and report in memory, as plain data
abbrev pub compilation_of : TicOutcome → Compilation
compilation_of outcome = record {
  files = entries outcome.files.items;
  report = outcome.report.items;
  status = outcome.status;
}

-- the outcome is what all blocks of a source make, each of which is taken
abbrev pub IsCompiled : List ℕ → Bool → List ℕ → TicOutcome → Type 0
IsCompiled source check dir outcome =
    AreTaken (source_texts source) × (compilation_of outcome ≡ compilation check dir (first_line source) (source_texts source))

-- the answer is what comes of the source, or `Memory`, which comes only if the source is not
-- refused
abbrev pub IsTicAnswer : List ℕ → Bool → List ℕ → Result TicOutcome ToolError → Type 0
IsTicAnswer source check dir (Ok outcome) = IsCompiled source check dir outcome
IsTicAnswer source check dir (Err error) = IsToldRefusal source error ⊎ ((error ≡ Memory) × AreTaken (source_texts source))
