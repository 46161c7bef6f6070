-- What `tput -S` prints for the lines of its input, and how a run over devices ends (tput(1); that
-- the status is at most 255 is own).
use Rattle.std.specs.Prelude.{◌≡◌, ⊤, ℕ, zero, suc, ◌+◌, min, filter, List, [], Option, Some, None, option_map, Result, Ok, Err, ℤ}
use Rattle.std.specs.List.{slice_split}
use Rattle.ti_param.specs.Meaning.{no_variables}
use Rattle.tools_devices.specs.Answering.{LinesEnd}
use Rattle.tools_devices.specs.Counted.{Observed}
use Rattle.tools_devices.specs.declared.tool_error.ToolError.{ToolError}
use Rattle.tools_tput.specs.Results.{bad_status}
use Rattle.tools_tput.specs.Runs.{has_bytes}
use Rattle.tools_tput.specs.Streaming.{command_line_max}
use Rattle.everyday_tput.specs.Answers.{FullTarget}
use Rattle.everyday_tput.specs.Numbers.{is_space}
use Rattle.everyday_tput.specs.Running.{Run, RunsWords, Stop}
use Rattle.everyday_tput.specs.declared.running.Until.TheVariants.{BadCommand}
use Rattle.everyday_tput.specs.declared.streaming.LinesEnding.{LinesEnding}

-- the words of a line, separated by white space
unfoldable pub words_of : List ℕ → List (List ℕ)
words_of line = filter has_bytes (slice_split is_space line)

-- what is between two lines: how many commands were absent or false, the static variables, and the
-- name at which the run has stopped
pub record RunState : Type 0 where
  pub absent : ℕ
  pub statics : List ℤ
  pub ended : Option (List ℕ)

-- before the first line
abbrev pub lines_start : RunState
lines_start = record { absent = 0; statics = no_variables; ended = None }

-- the name at which a run stops
abbrev pub stop_name : Option Stop → Option (List ℕ)
stop_name stop = option_map (λ (s : Stop). s.name) stop

-- what is after a run of commands
abbrev pub state_after : RunState → Run → RunState
state_after state run = record { absent = state.absent + run.passed; statics = run.statics; ended = stop_name run.stop }

-- What comes of a line: its commands are run up to one that is unknown or bad, and after that
-- nothing is.
pub data TakesLine (t : FullTarget) (state : RunState) (line : List ℕ) : RunState → List ℕ → Type 0 where
  after_the_end : {name : List ℕ} → state.ended ≡ Some name → TakesLine t state line state []
  before_the_end : {run : Run} → state.ended ≡ None → RunsWords t BadCommand state.statics (words_of line) run →
      TakesLine t state line (state_after state run) run.bytes

-- what is between two lines of a run for that target
pub record TerminalState : Type 0 where
  pub target : FullTarget
  pub run : RunState

-- a line leads from one state to another, with what it writes
abbrev pub line_leads : TerminalState → List ℕ → TerminalState → List ℕ → Type 0
line_leads before line after bytes = (before.target ≡ after.target) × TakesLine before.target before.run line after.run bytes

-- 0 if no command was absent or false, else 4 and their count, at most 255
abbrev pub counted_status : ℕ → ℕ
counted_status zero = 0
counted_status (suc absent) = min 255 (bad_status + suc absent)

-- the status of a run: 4 if it stopped
abbrev pub ended_status : Option (List ℕ) → ℕ → ℕ
ended_status None absent = counted_status absent
ended_status (Some name) absent = bad_status

-- the status is that of the run, and so is the name at which it stopped
abbrev pub IsLinesEnding : LinesEnding → RunState → Type 0
IsLinesEnding ending run = (ending.status ≡ ended_status run.ended run.absent) × (option_map (λ name. name.items) ending.name ≡ run.ended)

-- How a run ends: all lines led to a state that has the status, or it stopped at an error.
abbrev pub CommandsEnd : FullTarget → Observed → Observed → Observed → Observed → Result LinesEnding ToolError → Type 0
CommandsEnd t given left before now (Ok ending) =
    LinesEnd line_leads ⊤ command_line_max (record { target = t; run = lines_start }) (λ end. IsLinesEnding ending end.run) given left before now (Ok tt)
CommandsEnd t given left before now (Err error) =
    LinesEnd line_leads ⊤ command_line_max (record { target = t; run = lines_start }) (λ end. ⊤) given left before now (Err error)
