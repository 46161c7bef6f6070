-- What one read of an input gives, up to its end.
use Rattle.std.specs.Prelude.{ℕ, ◌≡◌, ◌<◌, ◌≤◌, List, [], length, take}
use Rattle.lsp_frames.specs.Inputs.{Gives, InputSeen, Uses}
use Rattle.lsp_frames.specs.Transfers.{GivesNoMore}
use Rattle.lsp_frames.specs.declared.frames.FrameError.{FrameError}
use Rattle.lsp_frames.specs.declared.frames.FrameError.TheVariants.{Broken}

-- the reader gave these bytes, and then no more
pub record RunsDry (given left : InputSeen) (taken : List ℕ) : Type 0 where
  pub uses : Uses given left taken
  pub cause : GivesNoMore given left

-- this number of bytes came, at the front of a piece
pub record ReadsSome (given left : InputSeen) (piece : List ℕ) (count : ℕ) : Type 0 where
  pub some : 0 < count
  pub within : count ≤ length piece
  pub gives : Gives given left (take count piece)

-- the reader gave no more than was read before
abbrev pub StopsAtOnce : InputSeen → InputSeen → FrameError → Type 0
StopsAtOnce given left fault = (fault ≡ Broken) × RunsDry given left []
