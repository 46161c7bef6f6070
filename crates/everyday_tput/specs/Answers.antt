-- The result of a `tput` command for an entry with user-defined capabilities (tput(1),
-- user_caps(5)).
use Rattle.std.specs.Prelude.{◌≡◌, ◌⊎◌, ℕ, ◌-◌, ◌||◌, Bool, true, false, if◌then◌else◌, Option, Some, None, is_some, option_and_then, unwrap_or, ℤ}
use Rattle.std.specs.Prelude.{List, [], ◌∷◌, ◌++◌, codes, bytes_eq}
use Rattle.ti_caps.specs.Tables.{Capability, capability_named}
use Rattle.ti_caps.specs.declared.capability.Kind.TheVariants as kinds
use Rattle.ti_formats.specs.Formats.{IsStuck}
use Rattle.ti_formats.specs.Parameters.{TakesParameters}
use Rattle.ti_formats.specs.declared.taken.TakenParameters.{TakenParameters}
use Rattle.ti_layout.specs.Values.{Content, content_true, content_number, content_text, content_cancelled}
use Rattle.ti_layout.specs.View.{Entry, entry_seen, shown_text}
use Rattle.ti_param.specs.Expansion.{Expands, Overflows}
use Rattle.ti_printing.specs.declared.padding.Line.{Line}
use Rattle.tools_tput.specs.Entries.{content_named, line_at_rate}
use Rattle.tools_tput.specs.Results.{AnswersName, AreSent, OneAsksForTooMuch, Reply, Sends, bad_reply, number_text, reply}
use Rattle.user_extension.specs.Reading.{ReadRow, said}
use Rattle.user_extension.specs.View.{read_rows}
use Rattle.everyday_starting.specs.Starting.{AreWritten, OneIsRefused, first_parts, last_parts}
use Rattle.everyday_tput.specs.Parameters.{arguments}
use Rattle.everyday_tput.specs.Numbers.{size_in}
use Rattle.everyday_tput.specs.Sizes.{Sources, column_count, line_count, sources_of, window_columns}
use Rattle.everyday_tput.specs.declared.entry.Entry as declared
use Rattle.everyday_tput.specs.declared.target.StartFile as declared_file_type
use Rattle.everyday_tput.specs.declared.target.StartFile.TheVariants as declared_file
use Rattle.everyday_tput.specs.declared.target.Target as declared_target

-- ---- what commands are for

-- an entry with the names of its extension, each with what it has
pub record FullEntry : Type 0 where
  pub entry : Entry
  pub rows : List ReadRow

-- what an entry shows, as plain data
abbrev pub full_entry : declared.Entry → FullEntry
full_entry e = record { entry = entry_seen e.view; rows = read_rows e.extension }

-- an entry without user-defined capabilities
abbrev pub without_extension : Entry → FullEntry
without_extension entry = record { entry = entry; rows = [] }

-- the file that an entry names for its initialization or its reset: what it holds, nothing if the entry
-- names none; or the status of the process if it cannot be read
pub data StartFile : Type 0 where
  holds : List ℕ → StartFile
  fails : ℕ → StartFile

-- the same, as plain data
abbrev pub file_of : declared_file_type.StartFile → StartFile
file_of (declared_file.Bytes bytes) = holds bytes.now
file_of (declared_file.Failed status) = fails status

-- what commands are for: an entry; whether its terminal is named by `-T`; what is said outside it of
-- how many columns and lines there are; the rate of the line; whether `clear` keeps what has scrolled
-- off the screen
pub record FullTarget : Type 0 where
  pub full : FullEntry
  pub is_named : Bool
  pub columns : Sources
  pub lines : Sources
  pub rate : ℕ
  pub init_file : StartFile
  pub reset_file : StartFile
  pub keeps_scrollback : Bool

-- the same, as plain data
abbrev pub target_of : declared_target.Target → FullTarget
target_of t = record {
  full = full_entry t.entry;
  is_named = t.is_named;
  columns = sources_of t.columns;
  lines = sources_of t.lines;
  rate = t.rate;
  init_file = file_of t.init_file;
  reset_file = file_of t.reset_file;
  keeps_scrollback = t.keeps_scrollback;
}

-- ---- names

-- whether `tput` has an answer of its own for a name
abbrev pub is_own_name : List ℕ → Bool
is_own_name cap =
    bytes_eq cap (codes "longname") || bytes_eq cap (codes "init") || bytes_eq cap (codes "reset") || bytes_eq cap (codes "clear")

-- what the entry has of a user-defined name: one that is in no table, and that `tput` has no answer
-- of its own for
abbrev pub defined : FullEntry → List ℕ → Option Content
defined e cap = if is_own_name cap || is_some (capability_named cap) then None else said e.rows cap

-- a string of the tables that the entry has
abbrev pub HasTableText : FullEntry → List ℕ → List ℕ → Type 0
HasTableText e cap text =
    (is_own_name cap ≡ false) × (c : Capability) × (capability_named cap ≡ Some c) × (c.kind ≡ kinds.Text) × (shown_text (e.entry.contents c) ≡ Some text)

-- the entry has no string of the tables of that name
abbrev pub HasNoTableText : FullEntry → List ℕ → Type 0
HasNoTableText e cap = is_own_name cap ≡ false → (c : Capability) → capability_named cap ≡ Some c → c.kind ≡ kinds.Text → shown_text (e.entry.contents c) ≡ None

-- a string that the entry has by that name, of the tables or user-defined
abbrev pub HasText : FullEntry → List ℕ → List ℕ → Type 0
HasText e cap text = HasTableText e cap text ⊎ (defined e cap ≡ Some (content_text text))

-- the entry has no string by that name
pub data HasNoText (e : FullEntry) (cap : List ℕ) : Type 0 where
  of_flag : defined e cap ≡ Some content_true → HasNoText e cap
  of_number : {n : ℕ} → defined e cap ≡ Some (content_number n) → HasNoText e cap
  of_other : defined e cap ≡ None → HasNoTableText e cap → HasNoText e cap

-- the string of a user-defined capability
abbrev pub text_in : Option Content → Option (List ℕ)
text_in None = None
text_in (Some content_true) = None
text_in (Some (content_number n)) = None
text_in (Some (content_text text)) = Some text
text_in (Some content_cancelled) = None

-- ---- commands

-- a command: the name of a capability alone, or with words after it, which its string takes
pub data Command : Type 0 where
  alone : List ℕ → Command
  with_words : List ℕ → List (List ℕ) → Command

-- its name
abbrev pub name_of : Command → List ℕ
name_of (alone cap) = cap
name_of (with_words cap words) = cap

-- The result of a string: it is written as it is if no word follows, else expanded with the words.
-- A fault of the format is refused, as too much padding is.
pub data AnswersString (line : Line) (statics : List ℤ) (text : List ℕ) : Command → Reply → Type 0 where
  as_it_stands : {cap : List ℕ} {answer : Reply} → Sends line text statics statics answer → AnswersString line statics text (alone cap) answer
  by_expansion : {cap output : List ℕ} {words : List (List ℕ)} {taken : TakenParameters} {after : List ℤ} {answer : Reply} → TakesParameters text taken →
      Expands text (arguments cap taken.strings words) statics output after → Sends line output statics after answer →
      AnswersString line statics text (with_words cap words) answer
  by_fault : {cap : List ℕ} {words : List (List ℕ)} {place : ℕ} → IsStuck text place →
      AnswersString line statics text (with_words cap words) (bad_reply statics)
  by_overflow : {cap : List ℕ} {words : List (List ℕ)} {taken : TakenParameters} {place : ℕ} → TakesParameters text taken →
      Overflows text (arguments cap taken.strings words) statics place → AnswersString line statics text (with_words cap words) (bad_reply statics)

-- The result of `clear`: the string of that name, and then what clears the scrollback, each if it is
-- there. The status is 2 if the first is not.
pub data AnswersClear (line : Line) (clear scrollback : Option (List ℕ)) (statics : List ℤ) : Reply → Type 0 where
  cleared : {bytes : List ℕ} → AreSent line (clear ∷ scrollback ∷ []) bytes →
      AnswersClear line clear scrollback statics (reply bytes (if is_some clear then 0 else 2) statics)
  not_cleared : OneAsksForTooMuch line (clear ∷ scrollback ∷ []) → AnswersClear line clear scrollback statics (bad_reply statics)

-- what clears the scrollback: the user-defined E3, unless it is to be kept
abbrev pub scrollback_text : FullTarget → Option (List ℕ)
scrollback_text t = if t.keeps_scrollback then None else text_in (said t.full.rows (codes "E3"))

-- whether a name asks for a reset, or for an initialization, if it asks for one of the two
abbrev pub start_named : List ℕ → Option Bool
start_named cap = if bytes_eq cap (codes "init") then Some false else if bytes_eq cap (codes "reset") then Some true else None

-- the last column, counted from 0: that of the window, if it has columns and lines, else by how many
-- columns there are
abbrev pub start_last : FullTarget → ℕ
start_last t =
    unwrap_or (window_columns (option_and_then size_in t.columns.window) (option_and_then size_in t.lines.window))
    (column_count t.is_named t.columns t.full.entry) - 1

-- the file of a reset, or of an initialization
abbrev pub start_file : FullTarget → Bool → StartFile
start_file t is_reset = if is_reset then t.reset_file else t.init_file

-- The result of `init` and `reset`: the first parts, the file as it is, and the last ones. If the file
-- cannot be read, a newline ends the first parts. Nothing is written if a part cannot be written.
pub data AnswersStart (t : FullTarget) (is_reset : Bool) (statics : List ℤ) : Reply → Type 0 where
  started : {first file last : List ℕ} → AreWritten (line_at_rate t.full.entry t.rate) (first_parts is_reset t.full.entry (start_last t)) first →
      start_file t is_reset ≡ holds file → AreWritten (line_at_rate t.full.entry t.rate) (last_parts is_reset t.full.entry) last →
      AnswersStart t is_reset statics (reply (first ++ file ++ last) 0 statics)
  without_file : {first : List ℕ} {status : ℕ} → AreWritten (line_at_rate t.full.entry t.rate) (first_parts is_reset t.full.entry (start_last t)) first →
      start_file t is_reset ≡ fails status → AnswersStart t is_reset statics (reply (first ++ codes "\n") status statics)
  first_refused : OneIsRefused (line_at_rate t.full.entry t.rate) (first_parts is_reset t.full.entry (start_last t)) →
      AnswersStart t is_reset statics (bad_reply statics)
  last_refused : {file : List ℕ} → start_file t is_reset ≡ holds file → OneIsRefused (line_at_rate t.full.entry t.rate) (last_parts is_reset t.full.entry) →
      AnswersStart t is_reset statics (bad_reply statics)

-- how many columns or lines there are, if the name asks for it
abbrev pub size_named : FullTarget → List ℕ → Option ℕ
size_named t cap =
    if bytes_eq cap (codes "cols") then Some (column_count t.is_named t.columns t.full.entry)
    else if bytes_eq cap (codes "lines") then Some (line_count t.is_named t.lines t.full.entry) else None

-- The result of a command. A name that is neither `clear`, `init`, `reset`, `cols`, `lines`, a string
-- that the entry has, nor user-defined is handled as for an entry without user-defined capabilities. Words do not
-- matter to any but strings.
pub data Answers (t : FullTarget) (statics : List ℤ) (command : Command) : Reply → Type 0 where
  of_size : {n : ℕ} → size_named t (name_of command) ≡ Some n → Answers t statics command (reply (number_text (Some n)) 0 statics)
  of_clear : {answer : Reply} → bytes_eq (name_of command) (codes "clear") ≡ true →
      AnswersClear (line_at_rate t.full.entry t.rate) (shown_text (content_named t.full.entry (codes "clear"))) (scrollback_text t) statics answer →
      Answers t statics command answer
  of_start : {is_reset : Bool} {answer : Reply} → start_named (name_of command) ≡ Some is_reset → AnswersStart t is_reset statics answer →
      Answers t statics command answer
  of_string : {text : List ℕ} {answer : Reply} → HasText t.full (name_of command) text →
      AnswersString (line_at_rate t.full.entry t.rate) statics text command answer → Answers t statics command answer
  of_defined_flag : defined t.full (name_of command) ≡ Some content_true → Answers t statics command (reply [] 0 statics)
  of_defined_number : {n : ℕ} → defined t.full (name_of command) ≡ Some (content_number n) →
      Answers t statics command (reply (number_text (Some n)) 0 statics)
  of_tables : {answer : Reply} → size_named t (name_of command) ≡ None → bytes_eq (name_of command) (codes "clear") ≡ false →
      start_named (name_of command) ≡ None → defined t.full (name_of command) ≡ None → HasNoTableText t.full (name_of command) →
      AnswersName t.full.entry t.rate (name_of command) [] statics answer → Answers t statics command answer
