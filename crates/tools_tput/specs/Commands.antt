-- What the calls of `tput` return (own).
use Rattle.std.specs.Prelude.{ℕ, List, Some, None, Result, Ok, Err, ℤ}
use Rattle.tools_devices.specs.declared.tool_error.ToolError.{ToolError}
use Rattle.tools_devices.specs.declared.tool_error.ToolError.TheVariants.{Usage, Memory}
use Rattle.ti_layout.specs.View.{Entry}
use Rattle.tools_tput.specs.Replies.{reply_of}
use Rattle.tools_tput.specs.Results.{Reply, Answers}
use Rattle.tools_tput.specs.declared.replies.TputOutcome.{TputOutcome}

-- the answer to a command, whatever the variables are after it: bad usage if the command is bad,
-- and `Memory` only if it is not
abbrev pub AnswersCommand : Entry → ℕ → List ℤ → List (List ℕ) → Result TputOutcome ToolError → Type 0
AnswersCommand entry rate statics words (Ok outcome) = (after : List ℤ) × Answers entry rate statics words (Some (reply_of outcome after))
AnswersCommand entry rate statics words (Err Usage) = Answers entry rate statics words None
AnswersCommand entry rate statics words (Err Memory) = (answer : Reply) × Answers entry rate statics words (Some answer)
AnswersCommand entry rate statics words (Err _) = ⊥
