-- Frames: a header, an empty line, and the body (LSP 3.17, "Base Protocol").
use Rattle.std.specs.Prelude.{ℕ, ◌≡◌, ◌≢◌, ◌+◌, ◌*◌, ◌-◌, ◌^◌, ◌<◌, ◌≤◌, ◌==◌, ◌&&◌, ◌||◌, List, [], ◌∷◌, ◌++◌, All, Bool, false, true, Option, None, Some, length}
use Rattle.std.specs.Prelude.{take, drop, map, codes, decimal, nat_lt, nat_le, if◌then◌else◌, ◌⊎◌}
use Rattle.std.specs.Io.KnownBytes.{Consumes}
use Rattle.std.specs.Char.{to_ascii_lowercase}
use Rattle.lsp_frames.specs.declared.frames.Frame.{Frame}
use Rattle.lsp_frames.specs.declared.frames.Frame.TheVariants.{Body, TooLong}

-- the end of a line: CR LF
abbrev pub line_end : List ℕ
line_end = 13 ∷ 10 ∷ []

-- what is written for a body
abbrev pub framed : List ℕ → List ℕ
framed body = codes "Content-Length: " ++ decimal (length body) ++ codes "\r\n\r\n" ++ body

-- the most bytes of a header (own)
abbrev pub header_bytes_max : ℕ
header_bytes_max = 4096

-- the most bytes of a body (own)
abbrev pub body_bytes_max : ℕ
body_bytes_max = 67108864

-- ---- lines of a header ("Header Part")

-- the bytes have no LF
abbrev pub HasNoNewline : List ℕ → Type 0
HasNoNewline bytes = All (λ byte. byte ≢ 10) bytes

-- a line of a header is not empty, and has no LF
abbrev pub IsHeaderLine : List ℕ → Type 0
IsHeaderLine line = (line ≢ []) × HasNoNewline line

-- the lines, each with its end
abbrev pub lines_text : List (List ℕ) → List ℕ
lines_text [] = []
lines_text (line ∷ lines) = (line ++ line_end) ++ lines_text lines

-- the name is `Content-Length`, in any case
abbrev pub IsLengthLine : List ℕ → Type 0
IsLengthLine line = map to_ascii_lowercase (take 15 line) ≡ codes "content-length:"

-- the value of the first such line
pub record GivesLength (lines : List (List ℕ)) (value : List ℕ) : Type 0 where
  pub front : List (List ℕ)
  pub line : List ℕ
  pub back : List (List ℕ)
  pub whole : lines ≡ front ++ line ∷ back
  pub before : All (λ other. ¬ IsLengthLine other) front
  pub here : IsLengthLine line
  pub value_is : value ≡ drop 15 line

-- ---- the value: a number between blanks

-- a space or a tab
abbrev pub is_blank : ℕ → Bool
is_blank byte = byte == 32 || byte == 9

abbrev pub are_blank : List ℕ → Bool
are_blank [] = true
are_blank (byte ∷ bytes) = is_blank byte && are_blank bytes

abbrev pub is_digit : ℕ → Bool
is_digit byte = nat_le 48 byte && nat_le byte 57

-- the digits go on after a number that was read, which has at most 16 of them
abbrev pub number_after : ℕ → List ℕ → Option ℕ
number_after n [] = Some n
number_after n (byte ∷ bytes) =
    if is_digit byte then (if nat_lt n (10 ^ 15) then number_after (10 * n + (byte - 48)) bytes else None)
    else (if are_blank (byte ∷ bytes) then Some n else None)

-- at least one digit
abbrev pub digits_number : List ℕ → Option ℕ
digits_number [] = None
digits_number (byte ∷ bytes) = if is_digit byte then number_after 0 (byte ∷ bytes) else None

abbrev pub number_of : List ℕ → Option ℕ
number_of [] = None
number_of (byte ∷ bytes) = if is_blank byte then number_of bytes else digits_number (byte ∷ bytes)

-- ---- headers and frames

-- a header of these bytes announces a body of this length
pub record IsHeader (bytes : List ℕ) (len : ℕ) : Type 0 where
  pub lines : List (List ℕ)
  pub value : List ℕ
  pub whole : bytes ≡ lines_text lines ++ line_end
  pub each : All IsHeaderLine lines
  pub gives : GivesLength lines value
  pub announced : number_of value ≡ Some len
  pub short : length bytes ≤ header_bytes_max

-- a header and its body were read
pub record ReadsFrame (given left : Option (List ℕ)) (body : List ℕ) : Type 0 where
  pub header : List ℕ
  pub announces : IsHeader header (length body)
  pub read : Consumes given left (header ++ body)

-- a frame was read; the body of a frame that is too long is dropped
abbrev pub Reads : Option (List ℕ) → Option (List ℕ) → Frame → Type 0
Reads given left (Body body) = ReadsFrame given left body.items × (length body.items ≤ body_bytes_max)
Reads given left TooLong = (body : List ℕ) × ReadsFrame given left body × (body_bytes_max < length body)

-- what came in a frame, as plain data: its body, or none if that is too long
abbrev pub frame_view : Frame → Option (List ℕ)
frame_view (Body body) = Some body.items
frame_view TooLong = None

-- ---- bytes that are not a frame

-- no frame is at the front of these bytes
abbrev pub HasNoFrame : List ℕ → Type 0
HasNoFrame bytes = (header body rest : List ℕ) → IsHeader header (length body) → bytes ≢ (header ++ body) ++ rest

-- a frame is at the front of these bytes
pub record HasFrame (bytes : List ℕ) : Type 0 where
  pub header : List ℕ
  pub body : List ℕ
  pub rest : List ℕ
  pub announces : IsHeader header (length body)
  pub whole : bytes ≡ (header ++ body) ++ rest

-- whether a whole frame is at the front of these bytes
abbrev pub Waits : List ℕ → Bool → Type 0
Waits bytes true = HasFrame bytes
Waits bytes false = HasNoFrame bytes

-- no frame begins with these bytes, whatever follows them
abbrev pub BeginsNoFrame : List ℕ → Type 0
BeginsNoFrame bytes = (later : List ℕ) → HasNoFrame (bytes ++ later)

-- the bytes are one frame
pub record IsOneFrame (bytes : List ℕ) : Type 0 where
  pub header : List ℕ
  pub body : List ℕ
  pub whole : bytes ≡ header ++ body
  pub announces : IsHeader header (length body)

-- the bytes are one frame, or have none at their front
abbrev pub IsOneFrameAtMost : List ℕ → Type 0
IsOneFrameAtMost bytes = HasNoFrame bytes ⊎ IsOneFrame bytes
