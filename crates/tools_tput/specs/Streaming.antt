-- How a run of `tput -S` over devices ends (own): what it has read, and what it has written.
use Rattle.std.specs.Prelude.{◌≡◌, ⊤, ℕ, List, ◌++◌, Result, Ok, Err}
use Rattle.std.specs.Io.KnownBytes.{Consumes, IsAtEnd}
use Rattle.tools_devices.specs.Answering.{AreBegun, IsLongLine, IsOutOfMemory, IsReadFault}
use Rattle.tools_devices.specs.Counted.{Observed}
use Rattle.tools_devices.specs.Reading.{Gives}
use Rattle.tools_devices.specs.Lines.{HasLines, IsWithin, with_last}
use Rattle.tools_devices.specs.Writing.{TakesAll, TakesFront}
use Rattle.tools_devices.specs.declared.tool_error.ToolError.{ToolError}
use Rattle.tools_devices.specs.declared.tool_error.ToolError.TheVariants.{ReadFault, WriteFault, LineTooLong, Memory}
use Rattle.ti_layout.specs.View.{Entry}
use Rattle.tools_tput.specs.Runs.{LineStep, TakesLines, lines_start, run_status}

-- the greatest length of a line, without its newline
abbrev pub command_line_max : ℕ
command_line_max = 4096

-- the line is within that limit
abbrev pub IsShortCommandLine : List ℕ → Type 0
IsShortCommandLine line = IsWithin command_line_max line

-- the input was read to its end, all that its lines write was written, and the status is that of
-- its lines
pub record CommandsComplete (entry : Entry) (rate : ℕ) (given left before now : Observed) (status : ℕ) : Type 0 where
  pub input : List ℕ
  pub lines : List (List ℕ)
  pub line : List ℕ
  pub gives : Gives given left input
  pub at_end : IsAtEnd left.bytes
  pub has_lines : HasLines command_line_max input lines line
  pub short : IsShortCommandLine line
  pub step : LineStep
  pub takes : TakesLines entry rate lines_start (with_last lines line) step
  pub written : TakesAll before now step.bytes
  pub ends_with : status ≡ run_status step.after.bad

-- at a line that has begun the run stopped, for a cause that the bytes read after it and the line
-- have: what the lines before it write was written
pub record CommandsStopAtLine (entry : Entry) (rate : ℕ) (given left before now : Observed) (HasCause : List ℕ → List ℕ → Type 0) : Type 0 where
  pub taken : List ℕ
  pub rest : List ℕ
  pub lines : List (List ℕ)
  pub line : List ℕ
  pub gives : Consumes given.bytes left.bytes (taken ++ rest)
  pub has_lines : HasLines command_line_max taken lines line
  pub step : LineStep
  pub takes : TakesLines entry rate lines_start lines step
  pub written : TakesAll before now step.bytes
  pub cause : HasCause rest line

-- the writer failed: what these lines write was written up to some byte, and some bytes more were
-- read
pub record CommandsStopWriting (entry : Entry) (rate : ℕ) (given left before now : Observed) : Type 0 where
  pub taken : List ℕ
  pub rest : List ℕ
  pub lines : List (List ℕ)
  pub gives : Gives given left (taken ++ rest)
  pub are_begun : AreBegun command_line_max taken rest left lines
  pub step : LineStep
  pub takes : TakesLines entry rate lines_start lines step
  pub written : TakesFront before now step.bytes

-- How a run ends. If memory runs out before the first read, the run stopped at the first line, of
-- which nothing was read.
abbrev pub CommandsEnd : Entry → ℕ → Observed → Observed → Observed → Observed → Result ℕ ToolError → Type 0
CommandsEnd entry rate given left before now (Ok status) = CommandsComplete entry rate given left before now status
CommandsEnd entry rate given left before now (Err ReadFault) =
    CommandsStopAtLine entry rate given left before now (IsReadFault command_line_max given left)
CommandsEnd entry rate given left before now (Err LineTooLong) =
    CommandsStopAtLine entry rate given left before now (IsLongLine command_line_max given left)
CommandsEnd entry rate given left before now (Err WriteFault) = CommandsStopWriting entry rate given left before now
CommandsEnd entry rate given left before now (Err Memory) =
    CommandsStopAtLine entry rate given left before now (IsOutOfMemory ⊤ command_line_max given left)
CommandsEnd entry rate given left before now (Err _) = ⊥
