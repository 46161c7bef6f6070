-- The bytes that are sent.
use Rattle.std.proofs.Common.{◌≡◌, ℕ, Bool, List, ◌++◌, sym, subst}
use Rattle.ti_layout.specs.View.{Entry}
use Rattle.ti_printing.specs.declared.padding.Line.{Line}
use Rattle.everyday_starting.specs.Starting.{AreWritten, first_parts, last_parts}
use Rattle.everyday_tset.specs.Sending.{AreSent, are, with_return}

-- what is written before the file and after it, with the file, is sent
pub all_sent : (line : Line) (is_reset : Bool) (entry : Entry) (last : ℕ) (file first after bytes : List ℕ)
    → AreWritten line (first_parts is_reset entry last) first → AreWritten line (last_parts is_reset entry) after
    → bytes ≡ with_return (first ++ file ++ after) → AreSent line is_reset entry last file bytes
all_sent line is_reset entry last file first after bytes before later is =
    subst (AreSent line is_reset entry last file) (sym is) (are before later)
