-- What the calls of this crate return (own).
use Rattle.std.specs.Prelude.{◌≡◌, ◌≢◌, ℕ, List, [], option_map, Result, Ok, Err}
use Rattle.tools_devices.specs.declared.tool_error.ToolError.{ToolError}
use Rattle.tools_devices.specs.declared.tool_error.ToolError.TheVariants.{Usage, Memory}
use Rattle.ti_param.specs.Meaning.{no_variables}
use Rattle.everyday_tput.specs.Answers.{FullTarget}
use Rattle.everyday_tput.specs.Running as running
use Rattle.everyday_tput.specs.Running.{Run, RunsWords}
use Rattle.everyday_tput.specs.declared.running.Ending.{Ending}
use Rattle.everyday_tput.specs.declared.running.Stop.{Stop}
use Rattle.everyday_tput.specs.declared.running.Until.TheVariants.{Failure}

-- where commands stop, as plain data
abbrev pub stop_of : Stop → running.Stop
stop_of s = record { name = s.name.now; status = s.status }

-- the bytes are those of the run of the words, and it stops there
abbrev pub IsEnding : Ending → Run → Type 0
IsEnding ending run = (run.bytes ≡ ending.bytes.items) × (run.stop ≡ option_map stop_of ending.stop)

-- what words do: what their commands write, one after another, and where they stop; bad usage if
-- there is no word
abbrev pub EndsWords : FullTarget → List (List ℕ) → Result Ending ToolError → Type 0
EndsWords t words (Ok ending) = (run : Run) × RunsWords t Failure no_variables words run × IsEnding ending run
EndsWords t words (Err Usage) = words ≡ []
EndsWords t words (Err Memory) = words ≢ []
EndsWords t words (Err _) = ⊥
