-- The session (own): a script whose lines edit a source and ask about it, and the replies to them.
use Rattle.std.specs.Prelude.{◌≡◌, ℕ, ◌+◌, ◌-◌, ◌/◌, ◌%◌, ◌&&◌, ◌==◌, nat_lt, if◌then◌else◌, Option, Some, None, ◌⊎◌}
use Rattle.std.specs.Prelude.{List, [], ◌∷◌, ◌++◌, length, take, drop, position, codes, bytes_eq}
use Rattle.std.specs.List.{flat_map, list_all, AllByRecursion}
use Rattle.ti_text.specs.Ascii as ascii
use Rattle.ti_text.specs.Digits.{decimal_value, is_decimal_digit}
use Rattle.base_meaning.specs.Compiled.{compiled}
use Rattle.base_meaning.specs.Report.{report}
use Rattle.base_meaning.specs.Edits.{Change, insertion, replacement, removal, relocation, EditStep}
use Rattle.base_meaning.specs.Dependents.{Rebuilds}
use Rattle.base_meaning.specs.declared.edits.EditError.{EditError}
use Rattle.base_meaning.specs.declared.edits.EditError.TheVariants.{Position, TooLong, NotOneBlock, TooMany, Memory}
use Rattle.base_meaning.specs.declared.edits.Outcome.{Outcome}
use Rattle.base_meaning.specs.declared.edits.Outcome.TheVariants.{Accepted, Refused}
use Rattle.tools_devices.specs.Answering.{LinesLead}
use Rattle.tools_devices.specs.Lines.{IsWithin, Splits, with_last, with_newline}
use Rattle.tools_session.specs.Replies.{positions_text}

-- ---- lines

-- the greatest length of a line, without its newline
abbrev pub script_line_max : ℕ
script_line_max = 65536

-- the line is within that limit
abbrev pub IsShortScriptLine : List ℕ → Type 0
IsShortScriptLine line = IsWithin script_line_max line

-- ---- what a line says

-- between commands, or within a block that is to be put in or to replace another: its position, and
-- its text so far
pub data ScriptMode : Type 0 where
  outside : ScriptMode
  in_insertion : ℕ → List ℕ → ScriptMode
  in_replacement : ℕ → List ℕ → ScriptMode

-- what is asked for: an edit; the entry of the block at a position; the report; which blocks the
-- last accepted edit rebuilt; or something unknown
pub data Command : Type 0 where
  edits : Change → Command
  prints : ℕ → Command
  reports : Command
  rebuilds : Command
  nothing_known : Command

-- a line leads to another mode, or it completes a command, and then the mode is outside
pub data Meaning : Type 0 where
  goes_on : ScriptMode → Meaning
  asks : Command → Meaning

-- the most digits of a number in a script
abbrev pub script_digits_max : ℕ
script_digits_max = 9

-- the number that decimal digits spell, at least one and at most `script_digits_max`
abbrev pub script_number : List ℕ → Option ℕ
script_number text =
    if nat_lt 0 (length text) && nat_lt (length text) (script_digits_max + 1) && list_all is_decimal_digit text
    then Some (decimal_value text) else None

-- a letter with a number: `i N`, `r N`, `d N`, `p N`
abbrev pub meaning_with_number : ℕ → Option ℕ → Meaning
meaning_with_number letter None = asks nothing_known
meaning_with_number letter (Some n) =
    if letter == ascii.byte_of "i" then goes_on (in_insertion n [])
    else if letter == ascii.byte_of "r" then goes_on (in_replacement n [])
    else if letter == ascii.byte_of "d" then asks (edits (removal n))
    else if letter == ascii.byte_of "p" then asks (prints n)
    else asks nothing_known

-- both numbers, if both are there
abbrev pub both_numbers : Option ℕ → Option ℕ → Option (ℕ × ℕ)
both_numbers (Some one) (Some other) = Some (one, other)
both_numbers _ _ = None

-- the numbers before an offset of the text and after it
abbrev pub numbers_around : List ℕ → Option ℕ → Option (ℕ × ℕ)
numbers_around text None = None
numbers_around text (Some offset) = both_numbers (script_number (take offset text)) (script_number (drop (offset + 1) text))

-- two numbers with one space between them
abbrev pub two_numbers : List ℕ → Option (ℕ × ℕ)
two_numbers text = numbers_around text (position (λ byte. byte == ascii.space) text)

-- the letter of a move with its two numbers: `m F T`
abbrev pub moves : Option (ℕ × ℕ) → Meaning
moves None = asks nothing_known
moves (Some positions) = asks (edits (relocation positions.0 positions.1))

-- a letter alone: `f`, `w`
abbrev pub meaning_alone : ℕ → Meaning
meaning_alone letter = if letter == ascii.byte_of "f" then asks reports else if letter == ascii.byte_of "w" then asks rebuilds else asks nothing_known

-- a line between commands: an empty one says nothing; a letter is alone, or a space and a number
-- follow it, or two of each
abbrev pub meaning_outside : List ℕ → Meaning
meaning_outside [] = goes_on outside
meaning_outside (letter ∷ []) = meaning_alone letter
meaning_outside (letter ∷ space ∷ rest) =
    if space == ascii.space
    then (if letter == ascii.byte_of "m" then moves (two_numbers rest) else meaning_with_number letter (script_number rest))
    else asks nothing_known

-- a line in a mode: within a block, a line `.` ends it and any other belongs to it
abbrev pub meaning_in : ScriptMode → List ℕ → Meaning
meaning_in outside line = meaning_outside line
meaning_in (in_insertion at block) line =
    if bytes_eq line (codes ".") then asks (edits (insertion at block)) else goes_on (in_insertion at (block ++ with_newline line))
meaning_in (in_replacement at block) line =
    if bytes_eq line (codes ".") then asks (edits (replacement at block)) else goes_on (in_replacement at (block ++ with_newline line))

-- ---- replies

-- the name of the cause of a refusal
abbrev pub cause_name : EditError → List ℕ
cause_name Position = codes "Position"
cause_name TooLong = codes "TooLong"
cause_name NotOneBlock = codes "NotOneBlock"
cause_name TooMany = codes "TooMany"
cause_name Memory = codes "Memory"

-- the reply to what is refused
abbrev pub refused_text : EditError → List ℕ
refused_text error = with_newline (codes "refused " ++ cause_name error)

-- the reply to an edit
abbrev pub outcome_text : Outcome → List ℕ
outcome_text Accepted = with_newline (codes "ok")
outcome_text (Refused error) = refused_text error

-- the hexadecimal digit of that value, in lower case
abbrev pub hex_digit : ℕ → ℕ
hex_digit n = if nat_lt n 10 then ascii.digit_0 + n else ascii.byte_of "a" + (n - 10)

-- a byte as two hexadecimal digits, in lower case
abbrev pub hex_of : ℕ → List ℕ
hex_of byte = hex_digit (byte / 16) ∷ hex_digit (byte % 16) ∷ []

-- the reply that shows an entry, or that there is none
abbrev pub entry_text : Option (List ℕ) → List ℕ
entry_text None = with_newline (codes "none")
entry_text (Some bytes) = with_newline (flat_map hex_of bytes)

-- the reply to `p N`
abbrev pub print_reply : List (List ℕ) → ℕ → List ℕ
print_reply texts at = if nat_lt at (length texts) then entry_text (compiled texts at) else refused_text Position

-- the source that is edited: the texts of its blocks, and the positions that the last accepted edit
-- rebuilt
pub record Source : Type 0 where
  pub texts : List (List ℕ)
  pub rebuilt : List ℕ

-- the source of these texts, of which the last accepted edit rebuilt these positions
abbrev pub source : List (List ℕ) → List ℕ → Source
source texts rebuilt = record { texts = texts; rebuilt = rebuilt }

-- the positions that are known to be rebuilt after an edit with that outcome: those of the edit if
-- it was accepted, else the same as before
abbrev pub Shows : List (List ℕ) → Change → Outcome → List ℕ → List ℕ → Type 0
Shows texts change Accepted before now = (steps : ℕ) × Rebuilds texts change now steps
Shows texts change (Refused error) before now = now ≡ before

-- an edit with that outcome leads from one source to the next
pub record EditsSource (source : Source) (change : Change) (outcome : Outcome) (next : Source) : Type 0 where
  pub step : EditStep source.texts change outcome next.texts
  pub shows : Shows source.texts change outcome source.rebuilt next.rebuilt

-- A command leads from one source to the next, with its reply. An edit without cause, and a report,
-- may be refused as out of memory.
abbrev pub AnswersCommand : Source → Command → Source → List ℕ → Type 0
AnswersCommand source (edits change) next reply = (outcome : Outcome) × EditsSource source change outcome next × (reply ≡ outcome_text outcome)
AnswersCommand source (prints at) next reply = (next ≡ source) × (reply ≡ print_reply source.texts at)
AnswersCommand source reports next reply = (next ≡ source) × ((reply ≡ report source.texts 1 ++ with_newline (codes ".")) ⊎ (reply ≡ refused_text Memory))
AnswersCommand source rebuilds next reply = (next ≡ source) × (reply ≡ positions_text source.rebuilt)
AnswersCommand source nothing_known next reply = (next ≡ source) × (reply ≡ with_newline (codes "unknown"))

-- between two lines: the source and the mode
pub record SessionState : Type 0 where
  pub source : Source
  pub mode : ScriptMode

-- the state of this source and that mode
abbrev pub state : Source → ScriptMode → SessionState
state source mode = record { source = source; mode = mode }

-- what a line of that meaning leads to, with its reply
abbrev pub LineLeads : Meaning → SessionState → SessionState → List ℕ → Type 0
LineLeads (goes_on mode) before after reply = (after ≡ state before.source mode) × (reply ≡ [])
LineLeads (asks command) before after reply = (after.mode ≡ outside) × AnswersCommand before.source command after.source reply

-- a line leads from one state to another, with its reply
abbrev pub line_leads : SessionState → List ℕ → SessionState → List ℕ → Type 0
line_leads before line after reply = LineLeads (meaning_in before.mode line) before after reply

-- lines lead from one state to another, with their replies in order
abbrev pub Runs : List (List ℕ) → SessionState → SessionState → List ℕ → Type 0
Runs lines before after output = LinesLead line_leads lines before after output

-- the answer to a script that ends inside a block
abbrev pub closing_reply : ScriptMode → List ℕ
closing_reply outside = []
closing_reply (in_insertion at block) = with_newline (codes "unfinished")
closing_reply (in_replacement at block) = with_newline (codes "unfinished")

-- at the start there are no blocks, none was rebuilt, and none is open
abbrev pub session_start : SessionState
session_start = state (source [] []) outside

-- lines within the limit are complete, and this is the front of a further line; the lines have led
-- to that state, with their replies
pub record SoFar (taken line : List ℕ) (end : SessionState) (output : List ℕ) : Type 0 where
  pub lines : List (List ℕ)
  pub split : Splits taken lines line
  pub short : AllByRecursion IsShortScriptLine lines
  pub ran : Runs lines session_start end output

-- all lines of the input, a last one without newline too, are within the limit and have led to that
-- state, with their replies
pub record Complete (input : List ℕ) (end : SessionState) (replies : List ℕ) : Type 0 where
  pub lines : List (List ℕ)
  pub rest : List ℕ
  pub split : Splits input lines rest
  pub short : AllByRecursion IsShortScriptLine (with_last lines rest)
  pub ran : Runs (with_last lines rest) session_start end replies

-- the output of a session that read this input to its end
pub record Session (input output : List ℕ) : Type 0 where
  pub end : SessionState
  pub replies : List ℕ
  pub complete : Complete input end replies
  pub whole : output ≡ replies ++ closing_reply end.mode
