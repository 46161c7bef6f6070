-- A header whose empty line has not come yet.
use Rattle.std.specs.Prelude.{ℕ, ◌≡◌, ◌+◌, List, All, Option, MatchOption, None, length}
use Rattle.lsp_frames.specs.Frames.{GivesLength, IsHeaderLine, IsLengthLine, header_bytes_max, lines_text, number_of}
use Rattle.lsp_frames.specs.Inputs.{Gives, InputSeen}

-- the value of the first line that gives a length, if there is one
abbrev pub FirstLength : List (List ℕ) → Option (List ℕ) → Type 0
FirstLength lines value = MatchOption value (All (λ line. ¬ IsLengthLine line) lines) (GivesLength lines)

-- there is no value, or it is not a number
abbrev pub IsNoNumber : Option (List ℕ) → Type 0
IsNoNumber value = MatchOption value (Unit {0}) (λ bytes. number_of bytes ≡ None)

-- these lines were read, and there is room for this number of bytes more
pub record HeaderSoFar (given left : InputSeen) (value : Option (List ℕ)) (room : ℕ) : Type 0 where
  pub lines : List (List ℕ)
  pub read : Gives given left (lines_text lines)
  pub each : All IsHeaderLine lines
  pub first : FirstLength lines value
  pub room_is : length (lines_text lines) + room ≡ header_bytes_max
