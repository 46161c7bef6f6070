-- A string as its pieces (own): terminfo(5), "Parameterized Strings". Bytes that are written as
-- they are make one piece if they follow one another, and each code is a piece.
use Rattle.std.specs.Prelude.{◌≡◌, ℕ, Bool, true, false, ◌&&◌, List, [], ◌∷◌, ◌++◌, Option, length, take, drop, if◌then◌else◌, unwrap_or}
use Rattle.std.specs.List.{flat_map}
use Rattle.std.specs.String.{string_bytes}
use Rattle.ti_formats.specs.Left.{left_of}
use Rattle.ti_formats.specs.Reading.{Scan}
use Rattle.ti_formats.specs.declared.codes.Placed.{Placed}
use Rattle.ti_formats.specs.declared.codes.Token.{Token}
use Rattle.ti_formats.specs.declared.codes.Token.TheVariants.{Literal, Operation, If, Then, Else, EndIf}
use Rattle.source_strings.specs.Words.{words_of}
use Rattle.source_strings.specs.declared.pieces.Piece.{Piece}

-- the tokens of a format, up to where it is stuck
abbrev pub reading_of : List ℕ → Scan
reading_of format = left_of (record { place = 0; text = format; phases = [] })

-- whether a token only writes its own byte
abbrev pub is_literal : Token → Bool
is_literal (Literal byte) = true
is_literal (Operation code) = false
is_literal If = false
is_literal Then = false
is_literal Else = false
is_literal EndIf = false

-- a piece as plain data: where it begins and ends, whether it is a run of bytes that are written as
-- they are, and what it does, in words
pub record PieceSeen : Type 0 where
  pub start : ℕ
  pub end : ℕ
  pub literal : Bool
  pub words : List ℕ

-- a piece that holds its words in memory, as plain data
abbrev pub piece_seen : Piece → PieceSeen
piece_seen piece = record { start = piece.start; end = piece.end; literal = piece.literal; words = string_bytes piece.words }

-- a piece of these facts
abbrev pub piece_to : ℕ → Bool → List ℕ → ℕ → PieceSeen
piece_to start literal words end = record { start = start; end = end; literal = literal; words = words }

-- a piece that begins at a place, and the pieces of the tokens after its first; the last ends at
-- the last argument
unfoldable pub pieces_after : ℕ → Bool → List ℕ → List Placed → ℕ → List PieceSeen
pieces_after start literal words [] end = piece_to start literal words end ∷ []
pieces_after start literal words (next ∷ tokens) end =
    if literal && is_literal next.token then pieces_after start literal words tokens end
    else piece_to start literal words next.place ∷ pieces_after next.place (is_literal next.token) (words_of next.token) tokens end

-- the pieces of tokens, which end at a place
abbrev pub pieces_in : List Placed → ℕ → List PieceSeen
pieces_in [] end = []
pieces_in (first ∷ tokens) end = pieces_after first.place (is_literal first.token) (words_of first.token) tokens end

-- where a format stops, or its end
abbrev pub stop_or : ℕ → Option ℕ → ℕ
stop_or end stop = unwrap_or stop end

-- the pieces of a string
abbrev pub pieces_of : List ℕ → List PieceSeen
pieces_of format = pieces_in (reading_of format).tokens (stop_or (length format) (reading_of format).stop)

-- the text of a piece
abbrev pub text_of : List ℕ → PieceSeen → List ℕ
text_of format piece = drop piece.start (take piece.end format)

-- what is after the pieces: all from where the format is stuck on, else nothing
abbrev pub unread : List ℕ → List ℕ
unread format = drop (stop_or (length format) (reading_of format).stop) format

-- The law of pieces: nothing of a string is dropped. The texts of its pieces one after the other,
-- and what is after them, are the string.
abbrev pub PiecesAreWhole : Type 0
PiecesAreWhole = (format : List ℕ) → flat_map (text_of format) (pieces_of format) ++ unread format ≡ format
