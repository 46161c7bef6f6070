-- What the code knows of the answer to a command, computed (own).
use Rattle.std.specs.Prelude.{◌≡◌, List, Option, Some, None, IsSome, Result, Ok, Err, ℤ}
use Rattle.tools_devices.specs.declared.tool_error.ToolError.{ToolError}
use Rattle.tools_devices.specs.declared.tool_error.ToolError.TheVariants.{Usage, Memory}
use Rattle.tools_tput.specs.Replies.{reply_of}
use Rattle.tools_tput.specs.Results.{Reply}
use Rattle.tools_tput.specs.declared.replies.TputOutcome.{TputOutcome}

-- the answer is the reply, with these variables after it; bad usage if there is no reply; or
-- `Memory`
abbrev pub AnswersWords : Result TputOutcome ToolError → List ℤ → Option Reply → Type 0
AnswersWords (Ok outcome) statics reply = reply ≡ Some (reply_of outcome statics)
AnswersWords (Err Usage) statics reply = reply ≡ None
AnswersWords (Err Memory) statics reply = IsSome reply
AnswersWords (Err _) statics reply = ⊥
