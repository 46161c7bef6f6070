-- What is reported of the characters that erase, kill and interrupt (tset(1)): those that were set, and
-- those that are not the system's usual ones.
use Rattle.std.specs.Prelude.{ℕ, ◌+◌, ◌==◌, nat_lt, ◌&&◌, Bool, false, if◌then◌else◌, List, [], ◌∷◌, ◌++◌, codes, bytes_eq, Option, Some, None}
use Rattle.ti_layout.specs.View.{Entry}
use Rattle.everyday_starting.specs.Starting.{text_named}
use Rattle.everyday_tset.specs.Modes.{usual_erase, usual_interrupt, usual_kill}
use Rattle.everyday_tset.specs.declared.modes.Modes.{Modes}

-- whether a string is this byte alone
abbrev pub is_byte_alone : Option (List ℕ) → ℕ → Bool
is_byte_alone None byte = false
is_byte_alone (Some text) byte = bytes_eq text (byte ∷ [])

-- a control character, twice
abbrev pub control_name : ℕ → List ℕ
control_name character = codes "control-" ++ (character + 64) ∷ codes " (^" ++ (character + 64) ∷ codes ")"

-- the name of a character, given what the backspace key sends
abbrev pub character_name : Option (List ℕ) → ℕ → List ℕ
character_name backspace character =
    if character == 0 then codes "undef"
    else if character == 127 then codes "delete"
    else if is_byte_alone backspace character then codes "backspace"
    else if nat_lt character 32 then control_name character
    else character ∷ []

-- the line on a character: none if it is the usual one and was so
abbrev pub line_on : Option (List ℕ) → List ℕ → ℕ → ℕ → ℕ → List ℕ
line_on backspace name usual old new =
    if old == new && old == usual then []
    else name ++ (if old == new then codes " is " else codes " set to ") ++ character_name backspace new ++ codes ".\n"

-- the lines on the characters
abbrev pub lines_on : Option (List ℕ) → Modes → Modes → List ℕ
lines_on backspace old new =
    line_on backspace (codes "Erase") usual_erase old.erase new.erase
    ++ line_on backspace (codes "Kill") usual_kill old.kill new.kill
    ++ line_on backspace (codes "Interrupt") usual_interrupt old.interrupt new.interrupt

-- what is reported for a terminal of the modes before and now
abbrev pub report_of : Entry → Modes → Modes → List ℕ
report_of entry old new = lines_on (text_named entry (codes "kbs")) old new
