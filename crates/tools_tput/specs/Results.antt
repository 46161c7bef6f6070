-- The result of a `tput` command (tput(1)): bytes, exit status and static variables.
use Rattle.std.specs.Prelude.{◌≡◌, ℕ, ◌<◌, ◌≤◌, ◌||◌, ◌==◌, Bool, true, false, if◌then◌else◌, Option, Some, None, is_some, ℤ}
use Rattle.std.specs.Prelude.{List, [], ◌∷◌, ◌++◌, length, codes, bytes_eq}
use Rattle.std.specs.Fmt.{decimal}
use Rattle.std.specs.List.{after_last}
use Rattle.ti_text.specs.Ascii as ascii
use Rattle.ti_text.specs.Limits.{parameters_max}
use Rattle.ti_param.specs.Expansion.{Expands, Overflows}
use Rattle.ti_formats.specs.Formats.{IsStuck}
use Rattle.ti_printing.specs.declared.padding.Line.{Line}
use Rattle.ti_printing.specs.Padding.{AsksForTooMuch, IsPadded}
use Rattle.ti_caps.specs.Tables.{Capability, capability_named}
use Rattle.ti_caps.specs.declared.capability.Kind.TheVariants.{Flag, Number, Text}
use Rattle.ti_caps.specs.declared.capability.Kind.{Kind}
use Rattle.ti_layout.specs.Values.{Content, Contents}
use Rattle.ti_layout.specs.View.{Entry, shown_flag, shown_number, shown_text}
use Rattle.tools_tput.specs.Entries.{content_named, line_at_rate}
use Rattle.tools_tput.specs.Parameters.{parameters}

-- what a command writes, its exit status, and the static variables after it
pub record Reply : Type 0 where
  pub bytes : List ℕ
  pub status : ℕ
  pub statics : List ℤ

-- a reply, by its parts
abbrev pub reply : List ℕ → ℕ → List ℤ → Reply
reply bytes status statics = record { bytes = bytes; status = status; statics = statics }

-- the exit status of a bad command: its capability is unknown, or its string is bad
abbrev pub bad_status : ℕ
bad_status = 4

-- the reply to a bad command: nothing is written, and the variables are as before
abbrev pub bad_reply : List ℤ → Reply
bad_reply statics = reply [] bad_status statics

-- ---- strings

-- the bytes are the string padded for one line, and its padding is not too much
pub record IsSent (line : Line) (text bytes : List ℕ) : Type 0 where
  pub padded : IsPadded text 1 line bytes
  pub few : AsksForTooMuch text 1 line → ⊥

-- A string is written, and the variables are then those after it. A string with too much padding is
-- bad.
pub data Sends (line : Line) (text : List ℕ) (before after : List ℤ) : Reply → Type 0 where
  sent : {bytes : List ℕ} → IsSent line text bytes → Sends line text before after (reply bytes 0 after)
  refused : AsksForTooMuch text 1 line → Sends line text before after (bad_reply before)

-- a string as it is written if there is no word, else expanded with the words; a fault of the
-- format is refused as too much padding is
pub data AnswersString (line : Line) (cap : List ℕ) : List (List ℕ) → (statics : List ℤ) (text : List ℕ) → Reply → Type 0 where
  as_it_stands : {statics : List ℤ} {text : List ℕ} {answer : Reply} → Sends line text statics statics answer → AnswersString line cap [] statics text answer
  by_expansion : {word : List ℕ} {words : List (List ℕ)} {statics after : List ℤ} {text output : List ℕ} {answer : Reply} →
      Expands text (parameters cap (word ∷ words)) statics output after → Sends line output statics after answer →
      AnswersString line cap (word ∷ words) statics text answer
  by_fault : {word : List ℕ} {words : List (List ℕ)} {statics : List ℤ} {text : List ℕ} {place : ℕ} → IsStuck text place →
      AnswersString line cap (word ∷ words) statics text (bad_reply statics)
  by_overflow : {word : List ℕ} {words : List (List ℕ)} {statics : List ℤ} {text : List ℕ} {place : ℕ} →
      Overflows text (parameters cap (word ∷ words)) statics place → AnswersString line cap (word ∷ words) statics text (bad_reply statics)

-- the bytes are those of the strings that are present, each padded by itself, in order
pub data AreSent (line : Line) : List (Option (List ℕ)) → List ℕ → Type 0 where
  no_string : AreSent line [] []
  absent : {texts : List (Option (List ℕ))} {bytes : List ℕ} → AreSent line texts bytes → AreSent line (None ∷ texts) bytes
  present : {text front bytes : List ℕ} {texts : List (Option (List ℕ))} → IsSent line text front → AreSent line texts bytes →
      AreSent line (Some text ∷ texts) (front ++ bytes)

-- one of the strings has too much padding
pub data OneAsksForTooMuch (line : Line) : List (Option (List ℕ)) → Type 0 where
  at_first : {text : List ℕ} {texts : List (Option (List ℕ))} → AsksForTooMuch text 1 line → OneAsksForTooMuch line (Some text ∷ texts)
  later : {text : Option (List ℕ)} {texts : List (Option (List ℕ))} → OneAsksForTooMuch line texts → OneAsksForTooMuch line (text ∷ texts)

-- strings are written, or all are refused if one has too much padding
pub data SendsAll (line : Line) (texts : List (Option (List ℕ))) (statics : List ℤ) : Reply → Type 0 where
  all_sent : {bytes : List ℕ} → AreSent line texts bytes → SendsAll line texts statics (reply bytes 0 statics)
  one_refused : OneAsksForTooMuch line texts → SendsAll line texts statics (bad_reply statics)

-- the strings that initialize a terminal
abbrev pub init_strings : Entry → List (Option (List ℕ))
init_strings entry =
    shown_text (content_named entry (codes "is1")) ∷ shown_text (content_named entry (codes "is2")) ∷ shown_text (content_named entry (codes "is3")) ∷ []

-- the strings that reset it
abbrev pub own_reset_strings : Entry → List (Option (List ℕ))
own_reset_strings entry =
    shown_text (content_named entry (codes "rs1")) ∷ shown_text (content_named entry (codes "rs2")) ∷ shown_text (content_named entry (codes "rs3")) ∷ []

-- whether one of the strings is present
abbrev pub some_present : List (Option (List ℕ)) → Bool
some_present [] = false
some_present (text ∷ texts) = is_some text || some_present texts

-- a terminal that has no string to reset it is initialized
abbrev pub reset_strings : Entry → List (Option (List ℕ))
reset_strings entry = if some_present (own_reset_strings entry) then own_reset_strings entry else init_strings entry

-- ---- commands

-- the description of the terminal: the names field after its last `|`, the whole field if it has
-- none
abbrev pub long_name : List ℕ → List ℕ
long_name names = after_last (λ byte. byte == ascii.bar) names

-- a number, or -1 if it is absent, and a newline
abbrev pub number_text : Option ℕ → List ℕ
number_text None = codes "-1" ++ ascii.newline ∷ []
number_text (Some n) = decimal n ++ ascii.newline ∷ []

-- what is answered of a string: nothing is written if it is absent, and the status is then 1
abbrev pub AnswersText : Line → List ℕ → List (List ℕ) → List ℤ → Option (List ℕ) → Reply → Type 0
AnswersText line cap words statics None answer = answer ≡ reply [] 1 statics
AnswersText line cap words statics (Some text) answer = AnswersString line cap words statics text answer

-- what is answered of a capability of that kind, by what the entry has of it: nothing is written of
-- a boolean, and the status is 1 if it is not set
abbrev pub AnswersContent : Line → List ℕ → List (List ℕ) → List ℤ → Kind → Option Content → Reply → Type 0
AnswersContent line cap words statics Flag content answer = answer ≡ reply [] (if shown_flag content then 0 else 1) statics
AnswersContent line cap words statics Number content answer = answer ≡ reply (number_text (shown_number content)) 0 statics
AnswersContent line cap words statics Text content answer = AnswersText line cap words statics (shown_text content) answer

-- what is answered of a capability that has the name, by what the entry has of each; the command is
-- bad if no capability has the name
abbrev pub AnswersCapability : Line → List ℕ → List (List ℕ) → List ℤ → Contents → Option Capability → Reply → Type 0
AnswersCapability line cap words statics contents None answer = answer ≡ bad_reply statics
AnswersCapability line cap words statics contents (Some c) answer = AnswersContent line cap words statics c.kind (contents c) answer

-- what is answered to a name with these words after it
pub data AnswersName (entry : Entry) (rate : ℕ) (cap : List ℕ) (words : List (List ℕ)) (statics : List ℤ) : Reply → Type 0 where
  of_longname : bytes_eq cap (codes "longname") ≡ true → AnswersName entry rate cap words statics (reply (long_name entry.names) 0 statics)
  of_init : {answer : Reply} → bytes_eq cap (codes "longname") ≡ false → bytes_eq cap (codes "init") ≡ true →
      SendsAll (line_at_rate entry rate) (init_strings entry) statics answer → AnswersName entry rate cap words statics answer
  of_reset : {answer : Reply} → bytes_eq cap (codes "longname") ≡ false → bytes_eq cap (codes "init") ≡ false → bytes_eq cap (codes "reset") ≡ true →
      SendsAll (line_at_rate entry rate) (reset_strings entry) statics answer → AnswersName entry rate cap words statics answer
  of_capability : {answer : Reply} → bytes_eq cap (codes "longname") ≡ false → bytes_eq cap (codes "init") ≡ false → bytes_eq cap (codes "reset") ≡ false →
      AnswersCapability (line_at_rate entry rate) cap words statics entry.contents (capability_named cap) answer
      → AnswersName entry rate cap words statics answer

-- What a command returns; None is bad usage: no word, or more than nine parameters.
pub data Answers (entry : Entry) (rate : ℕ) (statics : List ℤ) : List (List ℕ) → Option Reply → Type 0 where
  no_word : Answers entry rate statics [] None
  too_many : {cap : List ℕ} {words : List (List ℕ)} → parameters_max < length words → Answers entry rate statics (cap ∷ words) None
  answered : {cap : List ℕ} {words : List (List ℕ)} {answer : Reply} → length words ≤ parameters_max → AnswersName entry rate cap words statics answer →
      Answers entry rate statics (cap ∷ words) (Some answer)

-- the law of answers: each command has exactly one
pub record HasOneAnswer (entry : Entry) (rate : ℕ) (statics : List ℤ) (words : List (List ℕ)) : Type 0 where
  pub some : (answer : Option Reply) × Answers entry rate statics words answer
  pub one : (answer other : Option Reply) → Answers entry rate statics words answer → Answers entry rate statics words other → answer ≡ other
