-- What `init` and `reset` write, in the order of ncurses (tput(1), tset(1); terminfo(5), "Tabs and
-- Initialization"): two strings, the margins, the tabs, a file, and a last string.
use Rattle.std.specs.Prelude.{ℕ, ◌/◌, ◌==◌, nat_lt, min, Bool, if◌then◌else◌, List, [], ◌∷◌, ◌++◌, codes, replicate, Option, Some, None, unwrap_or, ℤ, pos}
use Rattle.std.specs.Global.{Vec}
use Rattle.std.specs.List.{repeat}
use Rattle.std.specs.Option.{option_or}
use Rattle.ti_text.specs.Ascii as ascii
use Rattle.ti_formats.specs.Formats.{IsStuck}
use Rattle.ti_layout.specs.View.{Entry, shown_number, shown_text}
use Rattle.ti_param.specs.Expansion.{Expands, Overflows}
use Rattle.ti_param.specs.Meaning.{FormatArgument, no_variables, number}
use Rattle.ti_printing.specs.Padding.{AsksForTooMuch}
use Rattle.ti_printing.specs.declared.padding.Line.{Line}
use Rattle.tools_tput.specs.Entries.{content_named}
use Rattle.tools_tput.specs.Results.{IsSent}
use Rattle.everyday_starting.specs.declared.written.Part as declared
use Rattle.everyday_starting.specs.declared.written.Part.TheVariants.{Blanks, ByNumbers, Plain, Stops}

-- ---- the parts of what is written

-- a string with its padding; a format with two numbers for its parameters; so many blanks; so many tab
-- stops that a string sets, each so many columns after the one before
pub data Part : Type 0 where
  plain : List ℕ → Part
  by_numbers : List ℕ → ℕ → ℕ → Part
  blanks : ℕ → Part
  stops : List ℕ → ℕ → ℕ → Part

-- the same, as plain data
abbrev pub part_of : declared.Part → Part
part_of (Plain text) = plain text.now
part_of (ByNumbers format first second) = by_numbers format.now first second
part_of (Blanks count) = blanks count
part_of (Stops set interval count) = stops set.now interval count

-- a string, if it is there
abbrev pub given : Option (List ℕ) → List Part
given None = []
given (Some text) = plain text ∷ []

-- the greatest number of a parameter; greater ones are cut to it
abbrev pub parameter_max : ℕ
parameter_max = 2147483647

-- a number as a parameter
abbrev pub parameter : ℕ → FormatArgument
parameter n = number (pos (min n parameter_max))

-- two numbers as the parameters of a format, of which the others are 0
abbrev pub parameters_of : ℕ → ℕ → List FormatArgument
parameters_of first second = parameter first ∷ parameter second ∷ replicate 7 (number (pos 0))

-- these bytes are written of a part; the variables of a format are 0 before it
pub data IsWritten (line : Line) : Part → List ℕ → Type 0 where
  of_text : {text bytes : List ℕ} → IsSent line text bytes → IsWritten line (plain text) bytes
  of_format : {format output bytes : List ℕ} {first second : ℕ} {after : List ℤ} → Expands format (parameters_of first second) no_variables output after →
      IsSent line output bytes → IsWritten line (by_numbers format first second) bytes
  of_blanks : {n : ℕ} → IsWritten line (blanks n) (repeat n (codes " "))
  of_stops : {set bytes : List ℕ} {interval count : ℕ} → IsSent line set bytes →
      IsWritten line (stops set interval count) (repeat count (repeat interval (codes " ") ++ bytes))

-- a part cannot be written: there is too much padding, or a fault of the format
pub data IsRefused (line : Line) : Part → Type 0 where
  too_much : {text : List ℕ} → AsksForTooMuch text 1 line → IsRefused line (plain text)
  too_much_of_it : {format output : List ℕ} {first second : ℕ} {after : List ℤ} → Expands format (parameters_of first second) no_variables output after →
      AsksForTooMuch output 1 line → IsRefused line (by_numbers format first second)
  too_much_each : {set : List ℕ} {interval count : ℕ} → AsksForTooMuch set 1 line → IsRefused line (stops set interval count)
  stuck : {format : List ℕ} {first second place : ℕ} → IsStuck format place → IsRefused line (by_numbers format first second)
  overflow : {format : List ℕ} {first second place : ℕ} → Overflows format (parameters_of first second) no_variables place →
      IsRefused line (by_numbers format first second)

-- parts are written one after another
pub data AreWritten (line : Line) : List Part → List ℕ → Type 0 where
  no_part : AreWritten line [] []
  next : {part : Part} {parts : List Part} {front bytes : List ℕ} → IsWritten line part front → AreWritten line parts bytes →
      AreWritten line (part ∷ parts) (front ++ bytes)

-- one of the parts cannot be written
pub data OneIsRefused (line : Line) : List Part → Type 0 where
  first : {part : Part} {parts : List Part} → IsRefused line part → OneIsRefused line (part ∷ parts)
  later : {part : Part} {parts : List Part} → OneIsRefused line parts → OneIsRefused line (part ∷ parts)

-- parts were written, or one of them cannot be
abbrev pub WritesAll : Line → List Part → Option (Vec ℕ) → Type 0
WritesAll line parts (Some bytes) = AreWritten line parts bytes.items
WritesAll line parts None = OneIsRefused line parts

-- ---- which there are

-- the string that an entry has of a name
abbrev pub text_named : Entry → List ℕ → Option (List ℕ)
text_named entry name = shown_text (content_named entry name)

-- for a reset the string of its own, if there is one; else that of an initialization
abbrev pub chosen : Bool → Entry → List ℕ → List ℕ → Option (List ℕ)
chosen is_reset entry own usual =
    if is_reset then option_or (text_named entry own) (text_named entry usual) else text_named entry usual

-- what moves the cursor to the first column
abbrev pub return_text : Entry → List ℕ
return_text entry = unwrap_or (text_named entry (codes "cr")) (ascii.carriage_return ∷ [])

-- what moves it from there to the last one, by its number counted from 0
abbrev pub to_the_last : Option (List ℕ) → ℕ → Part
to_the_last None last = blanks last
to_the_last (Some format) last = by_numbers format last 0

-- margins that are set where the cursor is
abbrev pub margins_by_moving : List ℕ → Part → Option (List ℕ) → Option (List ℕ) → List Part
margins_by_moving home right None on_right = []
margins_by_moving home right (Some on_left) None = []
margins_by_moving home right (Some on_left) (Some on_right) = plain home ∷ plain on_left ∷ right ∷ plain on_right ∷ plain home ∷ []

-- margins that are set by their numbers, if there are strings for both, else in another way
abbrev pub margins_by_number : ℕ → Option (List ℕ) → Option (List ℕ) → List Part → List Part
margins_by_number last None on_right others = others
margins_by_number last (Some on_left) None others = others
margins_by_number last (Some on_left) (Some on_right) others = by_numbers on_left 0 0 ∷ by_numbers on_right last 0 ∷ []

-- margins that are set at once, if there is a string for it, else in another way
abbrev pub margins_at_once : ℕ → Option (List ℕ) → List Part → List Part
margins_at_once last None others = others
margins_at_once last (Some both) others = by_numbers both 0 last ∷ []

-- margins that are cleared, if there is a string for it, else in another way
abbrev pub margins_cleared : Option (List ℕ) → List Part → List Part
margins_cleared None others = others
margins_cleared (Some clear) others = plain clear ∷ []

-- the margins, up to the last column
abbrev pub margins : Entry → ℕ → List Part
margins entry last =
    margins_cleared (text_named entry (codes "mgc"))
    (margins_at_once last (text_named entry (codes "smglr"))
    (margins_by_number last (text_named entry (codes "smglp")) (text_named entry (codes "smgrp"))
    (margins_by_moving (return_text entry) (to_the_last (text_named entry (codes "cuf")) last) (text_named entry (codes "smgl"))
    (text_named entry (codes "smgr")))))

-- tab stops up to the last column at this interval; none are set if each column would have one
abbrev pub stops_to : List ℕ → List ℕ → ℕ → ℕ → List Part
stops_to home set last interval = if nat_lt 1 interval then stops set interval (last / interval) ∷ plain home ∷ [] else []

-- tab stops at intervals other than the usual 8, if they can be cleared and set
abbrev pub tabs_by : List ℕ → ℕ → Option ℕ → Option (List ℕ) → Option (List ℕ) → List Part
tabs_by home last None set clear = []
tabs_by home last (Some interval) None clear = []
tabs_by home last (Some interval) (Some set) None = []
tabs_by home last (Some interval) (Some set) (Some clear) =
    if interval == 8 then [] else plain home ∷ plain clear ∷ stops_to home set last interval

-- the tabs, up to the last column
abbrev pub tabs : Entry → ℕ → List Part
tabs entry last =
    tabs_by (return_text entry) last (shown_number (content_named entry (codes "it"))) (text_named entry (codes "hts")) (text_named entry (codes "tbc"))

-- what comes before the file
abbrev pub first_parts : Bool → Entry → ℕ → List Part
first_parts is_reset entry last =
    given (chosen is_reset entry (codes "rs1") (codes "is1")) ++ given (chosen is_reset entry (codes "rs2") (codes "is2")) ++ margins entry last ++ tabs entry last

-- what comes after it
abbrev pub last_parts : Bool → Entry → List Part
last_parts is_reset entry = given (chosen is_reset entry (codes "rs3") (codes "is3"))

-- the path of the file
abbrev pub file_named : Bool → Entry → Option (List ℕ)
file_named is_reset entry = chosen is_reset entry (codes "rf") (codes "if")
