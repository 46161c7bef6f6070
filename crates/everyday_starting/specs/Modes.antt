-- The modes of the line to a terminal after `init` and `reset` (tput(1), tset(1)), as they are asked of
-- what sets them in C (window/modes.c).
use Rattle.std.specs.Prelude.{ℕ, Bool, false, if◌then◌else◌, List, [], ◌∷◌, codes, bytes_eq, Option, Some, None}
use Rattle.ti_text.specs.Ascii.{byte_of}
use Rattle.ti_layout.specs.View.{Entry, shown_flag, shown_text}
use Rattle.tools_tput.specs.Entries.{content_named}

-- the usual character that erases, DEL
abbrev pub delete : ℕ
delete = 127

-- the byte of a string that is one byte, else DEL
abbrev pub byte_alone : Option (List ℕ) → ℕ
byte_alone (Some (byte ∷ [])) = byte
byte_alone _ = delete

-- the character that erases, for a line that has none: that of the backspace key if the terminal
-- overstrikes and the key sends one byte
abbrev pub erase_of : Entry → ℕ
erase_of entry =
    if shown_flag (content_named entry (codes "os")) then byte_alone (shown_text (content_named entry (codes "kbs"))) else delete

-- whether a string is a line feed alone
abbrev pub is_line_feed : Option (List ℕ) → Bool
is_line_feed (Some text) = bytes_eq text (codes "\n")
is_line_feed None = false

-- `f` if the terminal's newline is a line feed alone, else `-`
abbrev pub newline_of : Entry → ℕ
newline_of entry = if is_line_feed (shown_text (content_named entry (codes "nel"))) then byte_of "f" else byte_of "-"

-- what is asked for: `r` for a reset and `i` else, the newline, and the character that erases
abbrev pub modes_of : ℕ → Entry → List ℕ
modes_of wanted entry = wanted ∷ newline_of entry ∷ erase_of entry ∷ []

-- what words ask of the modes: only a first one that is `init` or `reset` does
abbrev pub modes_asked : Entry → List (List ℕ) → Option (List ℕ)
modes_asked entry [] = None
modes_asked entry (cap ∷ words) =
    if bytes_eq cap (codes "reset") then Some (modes_of (byte_of "r") entry)
    else if bytes_eq cap (codes "init") then Some (modes_of (byte_of "i") entry)
    else None
