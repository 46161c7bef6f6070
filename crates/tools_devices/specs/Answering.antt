-- The lines of an input answered one after another (own): what was read, and what was written.
use Rattle.std.specs.Prelude.{◌≡◌, ℕ, ◌<◌, List, [], ◌∷◌, ◌++◌, length, Result, Ok, Err, ◌⊎◌}
use Rattle.std.specs.Io.KnownBytes.{Consumes, IsAtEnd}
use Rattle.tools_devices.specs.Counted.{Observed}
use Rattle.tools_devices.specs.Reading.{CannotReadOn, Gives}
use Rattle.tools_devices.specs.Lines.{HasLines, IsWithin, with_last}
use Rattle.tools_devices.specs.Writing.{TakesAll, TakesFront, Wrote}
use Rattle.tools_devices.specs.declared.tool_error.ToolError.{ToolError}
use Rattle.tools_devices.specs.declared.tool_error.ToolError.TheVariants.{ReadFault, WriteFault, LineTooLong, Memory}

-- ---- one line

-- a line has led to a state that is held now, and its reply was written, or, if a write failed, up
-- to some byte
pub record Answered {S : Type 0} (Holds : S → Type 0) (Leads : S → List ℕ → Type 0) (before now : Observed) (result : Result Unit ToolError) : Type 0 where
  pub next : S
  pub reply : List ℕ
  pub leads : Leads next reply
  pub holds : Holds next
  pub wrote : Wrote before now reply result

-- memory ran out, before anything was written
abbrev pub RunsOut : Observed → Observed → Result Unit ToolError → Type 0
RunsOut before now (Ok _) = ⊥
RunsOut before now (Err error) = (error ≡ Memory) × (now ≡ before)

-- a line was answered, or memory ran out, if it may
abbrev pub AnswersLine : {S : Type 0} → (S → Type 0) → (S → List ℕ → Type 0) → Type 0 → Observed → Observed → Result Unit ToolError → Type 0
AnswersLine Holds Leads MayRunOut before now result =
    Answered Holds Leads before now result ⊎ (MayRunOut × RunsOut before now result)

-- ---- lines

-- lines lead from one state to another, with their replies in order
abbrev pub LinesLead : {S : Type 0} → (S → List ℕ → S → List ℕ → Type 0) → List (List ℕ) → S → S → List ℕ → Type 0
LinesLead Leads [] before after output = (after ≡ before) × (output ≡ [])
LinesLead {S = S} Leads (line ∷ lines) before after output =
    (next : S) × (reply : List ℕ) × (later : List ℕ)
    × Leads before line next reply × LinesLead Leads lines next after later × (output ≡ reply ++ later)

-- the input was read to its end, and the replies to all its lines were written; the state to which
-- they lead is held now
pub record AllAnswered {S : Type 0} (Leads : S → List ℕ → S → List ℕ → Type 0) (limit : ℕ) (start : S) (Holds : S → Type 0)
    (given left before now : Observed) : Type 0 where
  pub input : List ℕ
  pub lines : List (List ℕ)
  pub line : List ℕ
  pub end : S
  pub output : List ℕ
  pub gives : Gives given left input
  pub at_end : IsAtEnd left.bytes
  pub has_lines : HasLines limit input lines line
  pub short : IsWithin limit line
  pub lead : LinesLead Leads (with_last lines line) start end output
  pub holds : Holds end
  pub written : TakesAll before now output

-- at a line that has begun the run stopped, for a cause that the bytes read after it and the line
-- have: the replies to the lines before it were written
pub record StopsAtLine {S : Type 0} (Leads : S → List ℕ → S → List ℕ → Type 0) (limit : ℕ) (start : S)
    (given left before now : Observed) (HasCause : List ℕ → List ℕ → Type 0) : Type 0 where
  pub taken : List ℕ
  pub rest : List ℕ
  pub lines : List (List ℕ)
  pub line : List ℕ
  pub end : S
  pub output : List ℕ
  pub gives : Consumes given.bytes left.bytes (taken ++ rest)
  pub has_lines : HasLines limit taken lines line
  pub lead : LinesLead Leads lines start end output
  pub written : TakesAll before now output
  pub cause : HasCause rest line

-- the lines to which replies have begun: those that are complete, or, if the input has ended, all
abbrev pub AreBegun : ℕ → List ℕ → List ℕ → Observed → List (List ℕ) → Type 0
AreBegun limit taken rest left begun =
    ((line : List ℕ) × HasLines limit taken begun line)
    ⊎ ((lines : List (List ℕ)) × (line : List ℕ) × HasLines limit taken lines line × IsWithin limit line × (rest ≡ []) × IsAtEnd left.bytes
    × (begun ≡ with_last lines line))

-- the writer failed: the replies to these lines were written up to some byte, and some bytes more
-- were read
pub record StopsWriting {S : Type 0} (Leads : S → List ℕ → S → List ℕ → Type 0) (limit : ℕ) (start : S)
    (given left before now : Observed) : Type 0 where
  pub taken : List ℕ
  pub rest : List ℕ
  pub lines : List (List ℕ)
  pub end : S
  pub output : List ℕ
  pub gives : Gives given left (taken ++ rest)
  pub are_begun : AreBegun limit taken rest left lines
  pub lead : LinesLead Leads lines start end output
  pub written : TakesFront before now output

-- no more can be read, in a line within the limit
abbrev pub IsReadFault : ℕ → Observed → Observed → List ℕ → List ℕ → Type 0
IsReadFault limit given left rest line = (rest ≡ []) × IsWithin limit line × CannotReadOn given left

-- the reader did not fail, and a line is over the limit
abbrev pub IsLongLine : ℕ → Observed → Observed → List ℕ → List ℕ → Type 0
IsLongLine limit given left rest line = (left.failures ≡ given.failures) × (limit < length line)

-- the reader did not fail, and memory may have run out for a line within the limit
abbrev pub IsOutOfMemory : Type 0 → ℕ → Observed → Observed → List ℕ → List ℕ → Type 0
IsOutOfMemory MayRunOut limit given left rest line = (left.failures ≡ given.failures) × IsWithin limit line × MayRunOut

-- How a run over an input ends that begins in a state. Out of memory: at the start, with nothing
-- read or written, or at a line, if it may.
abbrev pub LinesEnd : {S : Type 0} → (S → List ℕ → S → List ℕ → Type 0) → Type 0 → ℕ → S → (S → Type 0) → Observed → Observed → Observed → Observed
    → Result Unit ToolError → Type 0
LinesEnd Leads MayRunOut limit start Holds given left before now (Ok _) = AllAnswered Leads limit start Holds given left before now
LinesEnd Leads MayRunOut limit start Holds given left before now (Err ReadFault) =
    StopsAtLine Leads limit start given left before now (IsReadFault limit given left)
LinesEnd Leads MayRunOut limit start Holds given left before now (Err LineTooLong) =
    StopsAtLine Leads limit start given left before now (IsLongLine limit given left)
LinesEnd Leads MayRunOut limit start Holds given left before now (Err WriteFault) = StopsWriting Leads limit start given left before now
LinesEnd Leads MayRunOut limit start Holds given left before now (Err Memory) =
    ((left ≡ given) × (now ≡ before)) ⊎ StopsAtLine Leads limit start given left before now (IsOutOfMemory MayRunOut limit given left)
LinesEnd Leads MayRunOut limit start Holds given left before now (Err _) = ⊥
