-- What is said about the string of a capability that takes parameters (own): terminfo(5),
-- "Parameterized Strings" and "Delays and Padding".
use Rattle.std.specs.Prelude.{ℕ, ◌&&◌, nat_le, nat_lt, Bool, false, List, [], ◌++◌, Option, None, Some, codes, drop, length, if◌then◌else◌}
use Rattle.std.specs.List.{find, flat_map}
use Rattle.ti_printing.specs.declared.padding.Line.{Line}
use Rattle.ti_printing.specs.inside.Padding.{with_pad_bytes}
use Rattle.source_strings.specs.Examples.{example_line}
use Rattle.source_strings.specs.Pieces.{PieceSeen, pieces_of, reading_of, text_of}
use Rattle.source_strings.specs.Spelled.{spelled}

-- the most bytes of a string that is explained
abbrev pub explained_max : ℕ
explained_max = 4096

-- a line on which no padding is written as bytes
abbrev pub silent : Line
silent = record { rate = 9600; xon = false; pad_from = 0; pad_byte = None }

-- whether a text has padding, so that less is sent of it: terminfo(5), "Delays and Padding"
unfoldable pub has_padding : List ℕ → Bool
has_padding text = nat_lt (length (with_pad_bytes text 1 silent)) (length text)

-- what else a text does that is written as it is, if it has padding
unfoldable pub wait_words : Bool → List ℕ → List ℕ
wait_words literal written = if literal && has_padding written then codes ", and wait where it has $<..>" else []

-- a piece as a source spells it, and what it does
abbrev pub told : List ℕ → PieceSeen → List ℕ
told format piece =
    spelled (text_of format piece) ++ (codes ": " ++ (piece.words ++ wait_words piece.literal (text_of format piece)))

-- a line on a piece
abbrev pub piece_line : List ℕ → PieceSeen → List ℕ
piece_line format piece = codes "\n  " ++ told format piece

-- whether a piece holds the byte at a place
abbrev pub holds : ℕ → PieceSeen → Bool
holds place piece = nat_le piece.start place && nat_lt place piece.end

-- a line on a piece that a place is within, if it is a code
abbrev pub here_of : List ℕ → PieceSeen → List ℕ
here_of format piece = if piece.literal then [] else codes "\nHere: " ++ told format piece

-- the same on a piece that may be there
abbrev pub here_or : List ℕ → Option PieceSeen → List ℕ
here_or format None = []
here_or format (Some piece) = here_of format piece

-- a line on the code at a place, if one is there
abbrev pub here_line : List ℕ → List PieceSeen → Option ℕ → List ℕ
here_line format pieces None = []
here_line format pieces (Some place) = here_or format (find (holds place) pieces)

-- a line with what is left of a string that is no format
abbrev pub unread_line : List ℕ → List ℕ
unread_line rest = codes "\n  " ++ (spelled rest ++ codes ": invalid from here on")

-- such a line, if the string stops at a place
abbrev pub stop_line : List ℕ → Option ℕ → List ℕ
stop_line format None = []
stop_line format (Some place) = unread_line (drop place format)

-- the lines on a string with these pieces: the code at a place, the pieces, where it stops, and an
-- example
abbrev pub lines_of : List ℕ → List ℕ → List ℕ → List PieceSeen → Option ℕ → Option ℕ → List ℕ
lines_of name parameters format pieces stop at =
    here_line format pieces at
    ++ (codes "\nPieces:" ++ (flat_map (piece_line format) pieces ++ (stop_line format stop ++ example_line name parameters format)))

-- the lines on a string
abbrev pub lines_on : List ℕ → List ℕ → List ℕ → Option ℕ → List ℕ
lines_on name parameters format at = lines_of name parameters format (pieces_of format) (reading_of format).stop at

-- what is said about the string of a capability that takes parameters
abbrev pub explained : List ℕ → List ℕ → List ℕ → Option ℕ → List ℕ
explained name parameters format at = if nat_lt explained_max (length format) then [] else lines_on name parameters format at
