-- The line to a terminal as C has it, and what padding returns: terminfo(5), "Delays and Padding".
use Rattle.std.specs.Prelude.{◌≡◌, ◌<◌, ℕ, List, length, if◌then◌else◌, Option, Some, None}
use Rattle.ti_printing.specs.declared.padding.Line.{Line}
use Rattle.ti_printing.specs.Padding.{IsPadded}
use Rattle.ti_c.specs.Answers.{IsWritten}
use Rattle.ti_c.specs.declared.padding.TerminalLine.{TerminalLine}

-- the pad byte, if there is one
abbrev pub pad_byte_of : TerminalLine → Option ℕ
pad_byte_of line = if line.has_pad_byte then Some line.pad_byte else None

-- the line, as the library sees it
abbrev pub line_of : TerminalLine → Line
line_of line = record { rate = line.rate; xon = line.xon; pad_from = line.pad_from; pad_byte = pad_byte_of line }

-- the padded string was written, this many bytes
abbrev pub WritesPadded : List ℕ → ℕ → TerminalLine → (room written : List ℕ) → ℕ → Type 0
WritesPadded text lines line room written size =
    (padded : List ℕ) × IsPadded text lines (line_of line) padded × (size ≡ length padded) × IsWritten padded room written

-- the padded string has this many bytes, which is more than the room has
abbrev pub IsTooLong : List ℕ → ℕ → TerminalLine → List ℕ → ℕ → Type 0
IsTooLong text lines line room size =
    (padded : List ℕ) × IsPadded text lines (line_of line) padded × (size ≡ length padded) × (length room < size)
