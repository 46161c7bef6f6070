-- How a session over devices ends (own): what it has read, and what it has written.
use Rattle.std.specs.Prelude.{◌≡◌, ℕ, ◌<◌, List, [], ◌++◌, length, Result, Ok, Err, ◌⊎◌}
use Rattle.std.specs.Io.KnownBytes.{Consumes, IsAtEnd}
use Rattle.tools_devices.specs.Counted.{Observed}
use Rattle.tools_devices.specs.Reading.{CannotReadOn, Gives}
use Rattle.tools_devices.specs.Writing.{TakesAll, TakesFront}
use Rattle.tools_devices.specs.declared.tool_error.ToolError.{ToolError}
use Rattle.tools_devices.specs.declared.tool_error.ToolError.TheVariants.{ReadFault, WriteFault, LineTooLong, Memory}
use Rattle.tools_session.specs.Script.{IsShortScriptLine, Session, SoFar, SessionState, script_line_max}

-- the script was read to its end, and all replies were written
pub record ScriptCompletes (given left before now : Observed) : Type 0 where
  pub input : List ℕ
  pub output : List ℕ
  pub gives : Gives given left input
  pub at_end : IsAtEnd left.bytes
  pub session : Session input output
  pub written : TakesAll before now output

-- no more can be read: the replies to the lines that are complete were written
pub record ScriptStopsReading (given left before now : Observed) : Type 0 where
  pub taken : List ℕ
  pub line : List ℕ
  pub end : SessionState
  pub output : List ℕ
  pub gives : Consumes given.bytes left.bytes taken
  pub so_far : SoFar taken line end output
  pub short : IsShortScriptLine line
  pub written : TakesAll before now output
  pub cause : CannotReadOn given left

-- a line that has begun is over the limit: the replies to the lines before it were written, and
-- some bytes more were read
pub record ScriptFindsLongLine (given left before now : Observed) : Type 0 where
  pub taken : List ℕ
  pub rest : List ℕ
  pub line : List ℕ
  pub end : SessionState
  pub output : List ℕ
  pub gives : Gives given left (taken ++ rest)
  pub so_far : SoFar taken line end output
  pub long : script_line_max < length line
  pub written : TakesAll before now output

-- the replies that a session which took these bytes has begun to write: those to the lines that are
-- complete, or, if the input has ended, all
abbrev pub IsOutput : List ℕ → List ℕ → Observed → List ℕ → Type 0
IsOutput taken rest left output =
    ((line : List ℕ) × (end : SessionState) × SoFar taken line end output) ⊎ ((rest ≡ []) × IsAtEnd left.bytes × Session taken output)

-- the writer failed: the replies were written up to some byte, and some bytes more were read
pub record ScriptStopsWriting (given left before now : Observed) : Type 0 where
  pub taken : List ℕ
  pub rest : List ℕ
  pub output : List ℕ
  pub gives : Gives given left (taken ++ rest)
  pub is_output : IsOutput taken rest left output
  pub written : TakesFront before now output

-- How a session ends. Memory can run out only at the start, with nothing read or written.
abbrev pub ScriptEnds : Observed → Observed → Observed → Observed → Result Unit ToolError → Type 0
ScriptEnds given left before now (Ok _) = ScriptCompletes given left before now
ScriptEnds given left before now (Err ReadFault) = ScriptStopsReading given left before now
ScriptEnds given left before now (Err LineTooLong) = ScriptFindsLongLine given left before now
ScriptEnds given left before now (Err WriteFault) = ScriptStopsWriting given left before now
ScriptEnds given left before now (Err Memory) = (left ≡ given) × (now ≡ before)
ScriptEnds given left before now (Err _) = ⊥
