-- Bytes have one reading as a header, and one as a frame.
use Rattle.std.specs.Prelude.{ℕ, ◌≡◌, List, ◌++◌, Option, Some}
use Rattle.lsp_frames.specs.Frames.{IsHeader, Reads, frame_view}
use Rattle.lsp_frames.specs.declared.frames.Frame.{Frame}

-- two headers that begin the same bytes are equal, and announce the same length
abbrev pub OneHeader : Type 0
OneHeader =
    (header other : List ℕ) (len size : ℕ) (rest later : List ℕ) → IsHeader header len → IsHeader other size
    → header ++ rest ≡ other ++ later → (header ≡ other) × (len ≡ size) × (rest ≡ later)

-- two frames that are read from the same bytes are equal, and leave the same bytes
abbrev pub OneReading : Type 0
OneReading =
    (given : List ℕ) (left remaining : Option (List ℕ)) (frame other : Frame) → Reads (Some given) left frame → Reads (Some given) remaining other
    → (frame_view frame ≡ frame_view other) × (left ≡ remaining)
