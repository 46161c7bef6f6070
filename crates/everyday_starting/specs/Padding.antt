-- Strings with their padding (tput(1); terminfo(5), "Delays and Padding").
use Rattle.std.specs.Prelude.{ℕ, List, map, Option, Some, None, option_map}
use Rattle.std.specs.Global.{Vec}
use Rattle.std.specs.Borrow.{Bor}
use Rattle.ti_printing.specs.declared.padding.Line.{Line}
use Rattle.ti_printing.specs.Padding.{AsksForTooMuch}
use Rattle.tools_tput.specs.Results.{AreSent, IsSent, OneAsksForTooMuch}

-- a string was padded, or has too much padding
abbrev pub Pads : Line → List ℕ → Option (Vec ℕ) → Type 0
Pads line text (Some bytes) = IsSent line text bytes.items
Pads line text None = AsksForTooMuch text 1 line

-- strings that are there were padded, or one has too much padding
abbrev pub PadsAll : Line → List (Option (List ℕ)) → Option (Vec ℕ) → Type 0
PadsAll line texts (Some bytes) = AreSent line texts bytes.items
PadsAll line texts None = OneAsksForTooMuch line texts

-- strings, each of which may be there
abbrev pub given_texts : List (Option (Bor (List ℕ))) → List (Option (List ℕ))
given_texts texts = map (λ t. option_map (λ bytes. bytes.now) t) texts
