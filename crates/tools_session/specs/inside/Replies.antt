-- What the parts of the program write of a session's replies.
use Rattle.std.specs.Prelude.{◌++◌, ℕ, List, Result, ◌⊎◌, codes}
use Rattle.base_meaning.specs.Edits.{Change}
use Rattle.base_meaning.specs.Report.{report}
use Rattle.base_meaning.specs.declared.edits.EditError.TheVariants.{Memory}
use Rattle.base_meaning.specs.declared.edits.Outcome.{Outcome}
use Rattle.tools_devices.specs.Counted.{Observed}
use Rattle.tools_devices.specs.Lines.{with_newline}
use Rattle.tools_devices.specs.Writing.{Wrote}
use Rattle.tools_devices.specs.declared.tool_error.ToolError.{ToolError}
use Rattle.tools_session.specs.Script.{Source, EditsSource, outcome_text, refused_text}

-- an edit leads from one source to the next, and its outcome was written
pub record CarriesOut (source : Source) (change : Change) (next : Source) (before now : Observed) (result : Result Unit ToolError) : Type 0 where
  pub outcome : Outcome
  pub edited : EditsSource source change outcome next
  pub wrote : Wrote before now (outcome_text outcome) result

-- the report was written with its end, or a refusal as out of memory
abbrev pub WroteReport : List (List ℕ) → Observed → Observed → Result Unit ToolError → Type 0
WroteReport texts before now result =
    Wrote before now (report texts 1 ++ with_newline (codes ".")) result ⊎ Wrote before now (refused_text Memory) result
