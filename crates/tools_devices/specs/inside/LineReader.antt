-- Lines read from a device, one at a time, by parts of one line and by single reads (own).
use Rattle.std.specs.Prelude.{◌≡◌, ℕ, ◌+◌, ◌*◌, ◌<◌, ◌≤◌, List, [], ◌++◌, length, Bool, true, false, Result, Ok, Err, ◌⊎◌}
use Rattle.std.specs.Io.KnownBytes.{Consumes, IsAtEnd}
use Rattle.tools_devices.specs.Counted.{Observed}
use Rattle.tools_devices.specs.Lines.{IsOneLine, IsWithin, with_newline}
use Rattle.tools_devices.specs.Reading.{Gives}
use Rattle.tools_devices.specs.inside.Reading.{read_bytes_max}
use Rattle.tools_devices.specs.declared.line_reader.LineReader.{LineReader}
use Rattle.tools_devices.specs.declared.line_reader.Next.{Next}
use Rattle.tools_devices.specs.declared.line_reader.Next.TheVariants.{Line, LastLine, End}
use Rattle.tools_devices.specs.declared.tool_error.ToolError.{ToolError}
use Rattle.tools_devices.specs.declared.tool_error.ToolError.TheVariants.{ReadFault, LineTooLong}

-- the line that was read last
abbrev pub last_line_of : LineReader → List ℕ
last_line_of lines = lines.line.bytes

-- the greatest length of a line, without its newline
abbrev pub line_limit_of : LineReader → ℕ
line_limit_of lines = lines.line.limit

-- the bytes that were read and belong to later lines
abbrev pub ahead_of : LineReader → List ℕ
ahead_of lines = lines.ahead

-- how many reads are left
abbrev pub reads_left_of : LineReader → ℕ
reads_left_of lines = lines.reads_left

-- at most this number of bytes is still to be used: those ahead, and `read_bytes_max` a read
abbrev pub bytes_left : LineReader → ℕ
bytes_left lines = reads_left_of lines * read_bytes_max + length (ahead_of lines)

-- the reader failed once, or it did not and no read was left
abbrev pub CannotRead : LineReader → Observed → Observed → Type 0
CannotRead now given left =
    (left.failures ≡ given.failures + 1) ⊎ ((left.failures ≡ given.failures) × (reads_left_of now ≡ 0))

-- What came next, of the bytes ahead and those that the reader gave: a line with its newline; at
-- the end of the input a last line without one, or none; or a fault, after the front of a line.
abbrev pub ReadsLine : LineReader → LineReader → Observed → Observed → Result Next ToolError → Type 0
ReadsLine before now given left (Ok Line) =
    (taken : List ℕ) × Gives given left taken × (ahead_of before ++ taken ≡ with_newline (last_line_of now) ++ ahead_of now)
    × IsOneLine (last_line_of now) × IsWithin (line_limit_of before) (last_line_of now)
ReadsLine before now given left (Ok LastLine) =
    (taken : List ℕ) × Gives given left taken × (ahead_of before ++ taken ≡ last_line_of now) × IsAtEnd left.bytes
    × IsOneLine (last_line_of now) × IsWithin (line_limit_of before) (last_line_of now) × (0 < length (last_line_of now))
ReadsLine before now given left (Ok End) = Gives given left [] × (ahead_of before ≡ []) × IsAtEnd left.bytes
ReadsLine before now given left (Err ReadFault) =
    (taken : List ℕ) × Consumes given.bytes left.bytes taken × IsOneLine (ahead_of before ++ taken)
    × IsWithin (line_limit_of before) (ahead_of before ++ taken) × CannotRead now given left
ReadsLine before now given left (Err LineTooLong) =
    (taken : List ℕ) × (line : List ℕ) × (rest : List ℕ) × Gives given left taken × (ahead_of before ++ taken ≡ line ++ rest)
    × IsOneLine line × (line_limit_of before < length line)
ReadsLine before now given left (Err _) = ⊥

-- the limit does not change, and each read takes one of those that are left
pub record SpendsReads (before now : LineReader) (given left : Observed) : Type 0 where
  pub limit : line_limit_of now ≡ line_limit_of before
  pub reads : reads_left_of now + left.reads ≡ reads_left_of before + given.reads

-- a line was read, so fewer bytes are left to be used
abbrev pub Advances : LineReader → LineReader → Result Next ToolError → Type 0
Advances before now (Ok Line) = bytes_left now < bytes_left before
Advances before now _ = Unit {0}

-- what is before the first newline of the bytes ahead was put after the line, or all of them if
-- there is none
abbrev pub TakesLine : LineReader → LineReader → Result Bool ToolError → Type 0
TakesLine before now (Ok true) =
    (front : List ℕ) × (ahead_of before ≡ with_newline front ++ ahead_of now) × IsOneLine front × (last_line_of now ≡ last_line_of before ++ front)
    × IsWithin (line_limit_of before) (last_line_of now)
TakesLine before now (Ok false) =
    IsOneLine (ahead_of before) × (ahead_of now ≡ []) × (last_line_of now ≡ last_line_of before ++ ahead_of before)
    × IsWithin (line_limit_of before) (last_line_of now)
TakesLine before now (Err error) =
    (error ≡ LineTooLong) × (front : List ℕ) × (rest : List ℕ) × (ahead_of before ≡ front ++ rest) × IsOneLine front
    × (line_limit_of before < length (last_line_of before ++ front))

-- one more read: the bytes ahead are those that came, and none came only at the end; or no read was
-- left, or it failed
abbrev pub Refills : LineReader → LineReader → Observed → Observed → Result Bool ToolError → Type 0
Refills before now given left (Ok true) =
    Gives given left (ahead_of now) × (reads_left_of now + 1 ≡ reads_left_of before) × (bytes_left now ≤ bytes_left before)
Refills before now given left (Ok false) = Gives given left [] × IsAtEnd left.bytes × (ahead_of now ≡ [])
Refills before now given left (Err error) =
    (error ≡ ReadFault) × Consumes given.bytes left.bytes [] × CannotRead now given left
