-- Frames read from a device and written to one, up to a failure.
use Rattle.std.specs.Prelude.{ℕ, ◌≡◌, ◌+◌, ◌<◌, ◌≤◌, ◌++◌, List, Result, Ok, Err, ◌⊎◌, length}
use Rattle.std.specs.Io.KnownBytes.{IsAtEnd}
use Rattle.tools_devices.specs.Counted.{Observed}
use Rattle.tools_devices.specs.Writing.{TakesAll, TakesFront}
use Rattle.lsp_frames.specs.Frames.{BeginsNoFrame, HasNoFrame, IsHeader, IsOneFrameAtMost, body_bytes_max}
use Rattle.lsp_frames.specs.Inputs.{Gives, InputSeen, Uses}
use Rattle.lsp_frames.specs.declared.frames.Frame.{Frame}
use Rattle.lsp_frames.specs.declared.frames.Frame.TheVariants.{Body, TooLong}
use Rattle.lsp_frames.specs.declared.frames.FrameError.{FrameError}
use Rattle.lsp_frames.specs.declared.frames.FrameError.TheVariants.{Memory, Broken}

-- ---- reading

-- a header and its body were read, and the reader did not fail
pub record GivesBody (given left : InputSeen) (body : List ℕ) : Type 0 where
  pub header : List ℕ
  pub announces : IsHeader header (length body)
  pub read : Gives given left (header ++ body)

-- a frame was read, and the reader did not fail; the body of a frame that is too long is dropped
abbrev pub GivesFrame : InputSeen → InputSeen → Frame → Type 0
GivesFrame given left (Body body) = GivesBody given left body.items × (length body.items ≤ body_bytes_max)
GivesFrame given left TooLong = (body : List ℕ) × GivesBody given left body × (body_bytes_max < length body)

-- the reader failed once, or it did not and has ended
abbrev pub GivesNoMore : InputSeen → InputSeen → Type 0
GivesNoMore given left = (left.failures ≡ given.failures + 1) ⊎ ((left.failures ≡ given.failures) × IsAtEnd left.bytes)

-- why no frame came after these bytes: they have none, and the reader gave no more; or it did not
-- fail, and no frame begins with them
abbrev pub NoFrameComes : InputSeen → InputSeen → List ℕ → Type 0
NoFrameComes given left taken =
    (HasNoFrame taken × GivesNoMore given left) ⊎ (BeginsNoFrame taken × (left.failures ≡ given.failures))

-- No frame was read. Out of memory: after a part of a frame or all of it, and the reader did not
-- fail.
abbrev pub ReadingStops : InputSeen → InputSeen → FrameError → Type 0
ReadingStops given left Memory = (taken : List ℕ) × Gives given left taken × IsOneFrameAtMost taken
ReadingStops given left Broken = (taken : List ℕ) × Uses given left taken × NoFrameComes given left taken

-- ---- writing

-- How the writing of bytes ends. Out of memory: before anything is written.
abbrev pub WritingEnds : Observed → Observed → List ℕ → Result Unit FrameError → Type 0
WritingEnds before now bytes (Ok _) = TakesAll before now bytes
WritingEnds before now bytes (Err Memory) = now ≡ before
WritingEnds before now bytes (Err Broken) = TakesFront before now bytes
