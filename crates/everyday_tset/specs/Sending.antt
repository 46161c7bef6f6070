-- What is sent to a terminal (tset(1); terminfo(5), "Tabs and Initialization"): the strings of `init` or
-- `reset` of tput(1) with the file that the entry names, and a return after them, if there are some.
use Rattle.std.specs.Prelude.{ℕ, ◌⊎◌, Bool, List, [], ◌∷◌, ◌++◌, Option, Some, None}
use Rattle.std.specs.Global.{Vec}
use Rattle.ti_text.specs.Ascii as ascii
use Rattle.ti_layout.specs.View.{Entry}
use Rattle.ti_printing.specs.declared.padding.Line.{Line}
use Rattle.everyday_starting.specs.Starting.{AreWritten, OneIsRefused, first_parts, last_parts}

-- bytes with a return after them, if there are some
abbrev pub with_return : List ℕ → List ℕ
with_return [] = []
with_return (byte ∷ bytes) = (byte ∷ bytes) ++ ascii.carriage_return ∷ []

-- these bytes are sent, up to the last column, with the content of the file that the entry names
pub data AreSent (line : Line) (is_reset : Bool) (entry : Entry) (last : ℕ) (file : List ℕ) : List ℕ → Type 0 where
  are : {first after : List ℕ} → AreWritten line (first_parts is_reset entry last) first → AreWritten line (last_parts is_reset entry) after
      → AreSent line is_reset entry last file (with_return (first ++ file ++ after))

-- a string cannot be written: it asks for too much padding, or cannot be expanded
abbrev pub CannotBeSent : Line → Bool → Entry → ℕ → Type 0
CannotBeSent line is_reset entry last = OneIsRefused line (first_parts is_reset entry last) ⊎ OneIsRefused line (last_parts is_reset entry)

-- bytes are sent, or a string cannot be written
abbrev pub Sends : Line → Bool → Entry → ℕ → List ℕ → Option (Vec ℕ) → Type 0
Sends line is_reset entry last file (Some bytes) = AreSent line is_reset entry last file bytes.items
Sends line is_reset entry last file None = CannotBeSent line is_reset entry last
