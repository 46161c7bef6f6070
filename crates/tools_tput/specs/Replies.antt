-- What the code knows of the replies to commands (own).
use Rattle.std.specs.Prelude.{List, ℤ}
use Rattle.tools_tput.specs.Results.{Reply, reply}
use Rattle.tools_tput.specs.declared.replies.TputOutcome.{TputOutcome}

-- an outcome, with these variables after it
abbrev pub reply_of : TputOutcome → List ℤ → Reply
reply_of outcome statics = reply outcome.bytes.items outcome.status statics
