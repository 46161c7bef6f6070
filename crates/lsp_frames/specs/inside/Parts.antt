-- Parts of frames read from a device.
use Rattle.std.specs.Prelude.{ℕ, ◌≡◌, ◌≢◌, ◌<◌, ◌≤◌, List, [], ◌∷◌, ◌++◌, length, ◌⊎◌}
use Rattle.std.specs.Io.KnownBytes.{Consumes}
use Rattle.lsp_frames.specs.Frames.{HasNoNewline}
use Rattle.lsp_frames.specs.Inputs.{Gives, InputSeen}
use Rattle.lsp_frames.specs.Reads.{RunsDry}
use Rattle.lsp_frames.specs.declared.frames.FrameError.{FrameError}
use Rattle.lsp_frames.specs.declared.frames.FrameError.TheVariants.{Memory, Broken}

-- bytes do not end with CR
abbrev pub HasNoReturn : List ℕ → Type 0
HasNoReturn bytes = (front : List ℕ) → bytes ≢ front ++ 13 ∷ []

-- a line has no LF yet, and the reader gave no more
pub record LineRunsDry (given left : InputSeen) : Type 0 where
  pub taken : List ℕ
  pub dry : RunsDry given left taken
  pub open_line : HasNoNewline taken

-- a line has no LF in this room
pub record LineIsLong (room : ℕ) (given left : InputSeen) : Type 0 where
  pub taken : List ℕ
  pub gives : Gives given left taken
  pub open_line : HasNoNewline taken
  pub long : room ≤ length taken

-- a line ended without CR
pub record LineHasNoReturn (given left : InputSeen) : Type 0 where
  pub line : List ℕ
  pub gives : Gives given left (line ++ 10 ∷ [])
  pub one : HasNoNewline line
  pub no_return : HasNoReturn line

-- why no line of a header was read
abbrev pub LineStops : ℕ → InputSeen → InputSeen → FrameError → Type 0
LineStops room given left Memory = (taken : List ℕ) × Gives given left taken × HasNoNewline taken
LineStops room given left Broken = LineRunsDry given left ⊎ LineIsLong room given left ⊎ LineHasNoReturn given left

-- why a body of this length was not read: out of memory, after at most all of it; or the reader gave
-- no more, after less
abbrev pub BodyStops : ℕ → InputSeen → InputSeen → FrameError → Type 0
BodyStops len given left Memory = (taken : List ℕ) × Gives given left taken × (length taken ≤ len)
BodyStops len given left Broken = (taken : List ℕ) × RunsDry given left taken × (length taken < len)

-- all was used, and one read brought a piece
pub record Fills (given left : InputSeen) : Type 0 where
  pub none : given.ahead ≡ []
  pub bytes : Consumes given.bytes left.bytes []
  pub failures : left.failures ≡ given.failures
  pub pieces : left.pieces ≡ given.pieces ++ left.ahead ∷ []
