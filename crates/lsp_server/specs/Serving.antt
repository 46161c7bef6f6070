-- Whole runs of frames: what is read, what is written in reply, and how a run ends.
use Rattle.std.specs.Prelude.{ℕ, ◌≡◌, ◌+◌, ◌≤◌, List, [], ◌∷◌, ◌++◌, Option, None, Some, Result, Ok, Err, ◌⊎◌, Bool, false, flat_map, length, map}
use Rattle.std.specs.Io.KnownBytes.{Appends}
use Rattle.serde_json.specs.Data.{Data}
use Rattle.serde_json.specs.Written.{compact_text}
use Rattle.tools_devices.specs.Counted.{Observed}
use Rattle.tools_devices.specs.Writing.{TakesAll}
use Rattle.lsp_frames.specs.Frames.{IsHeader, IsOneFrameAtMost, Waits, body_bytes_max, framed}
use Rattle.lsp_frames.specs.Inputs.{Gives, InputSeen, Takes, Uses}
use Rattle.lsp_frames.specs.Transfers.{NoFrameComes}
use Rattle.lsp_frames.specs.declared.frames.FrameError.{FrameError}
use Rattle.lsp_frames.specs.declared.frames.FrameError.TheVariants.{Memory, Broken}
use Rattle.lsp_messages.specs.Bodies.{value_of}
use Rattle.lsp_server.specs.Answers.{answer_data}
use Rattle.lsp_server.specs.Sayings.{Sayings}
use Rattle.lsp_server.specs.Runs.{IsShown, last_shown}
use Rattle.lsp_server.specs.States.{status_of}
use Rattle.lsp_server.specs.Steps.{Answer, Places, State, at_start, open_at, replied}

-- ---- what is read

-- a body is this JSON value, or it is none or too long
abbrev pub IsBody : List ℕ → Option Data → Type 0
IsBody body None = length body ≤ body_bytes_max → value_of body ≡ None
IsBody body (Some value) = (length body ≤ body_bytes_max) × (value_of body ≡ Some value)

-- the bytes are a header and the body that it announces, which is this value
pub record IsFrame (bytes : List ℕ) (value : Option Data) : Type 0 where
  pub header : List ℕ
  pub body : List ℕ
  pub whole : bytes ≡ header ++ body
  pub announces : IsHeader header (length body)
  pub value_is : IsBody body value

-- a turn of the server: what the body of a frame is, and whether a whole frame waits after it, in
-- what was read
pub record Turn : Type 0 where
  pub value : Option Data
  pub waits : Bool

-- Of the bytes ahead and of pieces that came, frames of these turns are used, one after another,
-- each as soon as it came: no piece is read that is not needed for it. A whole frame waits after one
-- if it is at the front of the bytes that are ahead then.
abbrev pub AreTurns : List ℕ → List (List ℕ) → List Turn → List ℕ → Type 0
AreTurns ahead pieces [] left = (pieces ≡ []) × (left ≡ ahead)
AreTurns ahead pieces (turn ∷ turns) left =
    (frame : List ℕ) × (came : List (List ℕ)) × (rest : List ℕ) × (later : List (List ℕ)) × (pieces ≡ came ++ later)
    × IsFrame frame turn.value × Takes ahead came frame rest × Waits rest turn.waits × AreTurns rest later turns left

-- the bytes are a frame for each of the turns, in order
abbrev pub AreFrames : List ℕ → List Turn → Type 0
AreFrames bytes [] = bytes ≡ []
AreFrames bytes (turn ∷ turns) = (frame : List ℕ) × (rest : List ℕ) × (bytes ≡ frame ++ rest) × IsFrame frame turn.value × AreFrames rest turns

-- ---- what becomes of the state, and what is sent

-- the state after these turns
abbrev pub served_state : Places → State → List Turn → State
served_state places state [] = state
served_state places state (turn ∷ turns) = served_state places ((replied places state turn.value turn.waits).0) turns

-- what is sent in them
abbrev pub replies_to : Places → State → List Turn → List Answer
replies_to places state [] = []
replies_to places state (turn ∷ turns) =
    (replied places state turn.value turn.waits).1 ++ replies_to places ((replied places state turn.value turn.waits).0) turns

-- none of these turns comes after the server has ended
abbrev pub GoesOn : Places → State → List Turn → Type 0
GoesOn places state [] = Unit {0}
GoesOn places state (turn ∷ turns) = (status_of state ≡ None) × GoesOn places ((replied places state turn.value turn.waits).0) turns

-- ---- what is written

-- each answer is written as the frame of its text
abbrev pub answers_text : Sayings → List Answer → List ℕ
answers_text says answers = flat_map (λ answer. framed (compact_text (answer_data says answer))) answers

-- what is written for values
abbrev pub frames_text : List Data → List ℕ
frames_text values = flat_map (λ value. framed (compact_text value)) values

-- what is written in a turn
abbrev pub reply_text : Places → Sayings → State → Turn → List ℕ
reply_text places says state turn = frames_text (map (answer_data says) (replied places state turn.value turn.waits).1)

-- ---- how a run ends

-- the input is frames of turns, none of which comes after the server has ended, and the output is
-- the frames of the answers in them
pub record Exchange (places : Places) (says : Sayings) (start end : State) (input output : List ℕ) : Type 0 where
  pub turns : List Turn
  pub frames : AreFrames input turns
  pub going : GoesOn places start turns
  pub end_is : end ≡ served_state places start turns
  pub answers : output ≡ answers_text says (replies_to places start turns)

-- the same, and what waits after a turn is what the reads brought: of the pieces of the input since
-- it was given, those are used that came until the last frame was whole
pub record Exchanges (places : Places) (says : Sayings) (given left : InputSeen) (start end : State) (input output : List ℕ) : Type 0 where
  pub exchange : Exchange places says start end input output
  pub came : List (List ℕ)
  pub later : List (List ℕ)
  pub ahead : List ℕ
  pub pieces : left.pieces ≡ given.pieces ++ (came ++ later)
  pub each : AreTurns given.ahead came exchange.turns ahead

-- a frame ended the server: all frames up to it were read, and the answers to them written
pub record ServesToTheEnd (places : Places) (says : Sayings) (given left : InputSeen) (before now : Observed) (start end : State) (status : ℕ) : Type 0 where
  pub input : List ℕ
  pub output : List ℕ
  pub exchange : Exchanges places says given left start end input output
  pub ended : status_of end ≡ Some status
  pub read : Gives given left input
  pub written : TakesAll before now output

-- after some frames no further one came: the answers to those before were written
pub record StopsReading (places : Places) (says : Sayings) (given left : InputSeen) (before now : Observed) (start : State) : Type 0 where
  pub input : List ℕ
  pub taken : List ℕ
  pub output : List ℕ
  pub end : State
  pub exchange : Exchanges places says given left start end input output
  pub going : status_of end ≡ None
  pub read : Uses given left (input ++ taken)
  pub written : TakesAll before now output
  pub cause : NoFrameComes given left taken

-- the writer failed at the answer to a frame: it was written up to some byte, after the answers to
-- the frames before, and nothing was read after that frame
pub record StopsWriting (places : Places) (says : Sayings) (given left : InputSeen) (before now : Observed) (start : State) : Type 0 where
  pub input : List ℕ
  pub frame : List ℕ
  pub turn : Turn
  pub output : List ℕ
  pub front : List ℕ
  pub back : List ℕ
  pub end : State
  pub exchange : Exchanges places says given left start end input output
  pub going : status_of end ≡ None
  pub is_frame : IsFrame frame turn.value
  pub waits : Waits left.ahead turn.waits
  pub reply : reply_text places says end turn ≡ front ++ back
  pub read : Gives given left (input ++ frame)
  pub written : Appends before.bytes now.bytes (output ++ front)
  pub failures : now.failures ≡ before.failures + 1

-- memory ran out at a frame: the answers to those before were written
pub record RunsOut (places : Places) (says : Sayings) (given left : InputSeen) (before now : Observed) (start : State) : Type 0 where
  pub input : List ℕ
  pub taken : List ℕ
  pub output : List ℕ
  pub end : State
  pub exchange : Exchanges places says given left start end input output
  pub going : status_of end ≡ None
  pub one : IsOneFrameAtMost taken
  pub read : Gives given left (input ++ taken)
  pub written : TakesAll before now output

-- the most frames of a run (own)
abbrev pub frames_max : ℕ
frames_max = 18446744073709551615

-- as many frames were read and answered as a run may have
pub record ServesMost (places : Places) (says : Sayings) (given left : InputSeen) (before now : Observed) (start end : State) : Type 0 where
  pub input : List ℕ
  pub output : List ℕ
  pub exchange : Exchanges places says given left start end input output
  pub most : length exchange.exchange.turns ≡ frames_max
  pub read : Gives given left input
  pub written : TakesAll before now output

-- How a run ends. Each frame is answered before more is read.
abbrev pub ServingEnds : Places → Sayings → InputSeen → InputSeen → Observed → Observed → State → State → Result ℕ FrameError → Type 0
ServingEnds places says given left before now start end (Ok status) = ServesToTheEnd places says given left before now start end status
ServingEnds places says given left before now start end (Err Memory) = RunsOut places says given left before now start
ServingEnds places says given left before now start end (Err Broken) =
    StopsReading places says given left before now start ⊎ StopsWriting places says given left before now start
    ⊎ ServesMost places says given left before now start end

-- ---- what is shown

-- after any frames, what is shown for a URI is the text and version of the document that is open
-- under it, unless its faults are due
abbrev pub ServedDocumentsAreShown : Type 0
ServedDocumentsAreShown =
    (places : Places) (turns : List Turn) (uri : List ℕ)
    → IsShown (last_shown uri None (replies_to places at_start turns)) (open_at uri (served_state places at_start turns).documents)

-- after any frames, of which no whole one waits after the last, no faults are due: what is shown for
-- a URI is the document that is open under it
abbrev pub AllIsServedAtLast : Type 0
AllIsServedAtLast =
    (places : Places) (turns : List Turn) (value : Option Data) (uri : List ℕ)
    → last_shown uri None (replies_to places at_start (turns ++ record { value = value; waits = false } ∷ []))
    ≡ open_at uri (served_state places at_start (turns ++ record { value = value; waits = false } ∷ [])).documents
