-- One turn of the server: a frame is read, and the answer to it is written.
use Rattle.std.specs.Prelude.{ℕ, ◌≡◌, List, false, Option, None, Some, ◌⊎◌}
use Rattle.std.specs.List.{AllByRecursion}
use Rattle.serde_json.specs.Data.{Data}
use Rattle.serde_json.specs.Written.{has_float}
use Rattle.tools_devices.specs.Counted.{Observed}
use Rattle.tools_devices.specs.Writing.{TakesAll, TakesFront}
use Rattle.lsp_frames.specs.Frames.{Waits}
use Rattle.lsp_frames.specs.Inputs.{Gives, InputSeen}
use Rattle.lsp_frames.specs.Transfers.{ReadingStops}
use Rattle.lsp_frames.specs.declared.frames.FrameError.{FrameError}
use Rattle.lsp_frames.specs.declared.frames.FrameError.TheVariants.{Memory, Broken}
use Rattle.lsp_frames.specs.declared.frames.Frame.{Frame}
use Rattle.lsp_frames.specs.declared.frames.Frame.TheVariants.{Body, TooLong}
use Rattle.lsp_messages.specs.Bodies.{value_of}
use Rattle.lsp_server.specs.Sayings.{Sayings}
use Rattle.lsp_server.specs.Serving.{IsFrame, Turn, reply_text}
use Rattle.lsp_server.specs.Steps.{Places, State, replied}

-- what came in a frame is this value, or none
abbrev pub IsValue : Frame → Option Data → Type 0
IsValue (Body body) value = value ≡ value_of body.items
IsValue TooLong None = Unit {0}
IsValue TooLong (Some value) = ⊥

-- no value has a float: what is written for one is not known
abbrev pub HaveNoFloats : List Data → Type 0
HaveNoFloats values = AllByRecursion (λ value. has_float value ≡ false) values

-- a frame was read and answered
pub record Answered (places : Places) (says : Sayings) (given left : InputSeen) (before now : Observed) (start end : State) : Type 0 where
  pub turn : Turn
  pub bytes : List ℕ
  pub frame : IsFrame bytes turn.value
  pub read : Gives given left bytes
  pub waits : Waits left.ahead turn.waits
  pub written : TakesAll before now (reply_text places says start turn)
  pub end_is : end ≡ (replied places start turn.value turn.waits).0

-- a frame was read, and its answers written up to some byte
pub record CutTurn (places : Places) (says : Sayings) (given left : InputSeen) (before now : Observed) (start : State) : Type 0 where
  pub turn : Turn
  pub bytes : List ℕ
  pub frame : IsFrame bytes turn.value
  pub read : Gives given left bytes
  pub waits : Waits left.ahead turn.waits
  pub written : TakesFront before now (reply_text places says start turn)

-- why a frame was not read or not answered
abbrev pub TurnStops : Places → Sayings → InputSeen → InputSeen → Observed → Observed → State → FrameError → Type 0
TurnStops places says given left before now start Memory = ReadingStops given left Memory × (now ≡ before)
TurnStops places says given left before now start Broken =
    (ReadingStops given left Broken × (now ≡ before)) ⊎ CutTurn places says given left before now start
