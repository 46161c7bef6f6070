-- A string of an entry as a string of C (own): term(5), "Legacy storage format", ends each by a NUL.
use Rattle.std.specs.Prelude.{◌≡◌, ◌++◌, ◌∷◌, ℕ, List, Some}
use Rattle.ti_text.specs.Ascii as ascii
use Rattle.ti_layout.specs.Reading.{Reads}
use Rattle.ti_layout.specs.Values.{Contents}
use Rattle.ti_c.specs.Entries.{string_at}

-- the text is in the bytes, and a NUL follows it there
abbrev pub IsEndedIn : List ℕ → List ℕ → Type 0
IsEndedIn bytes text = (before after : List ℕ) × (bytes ≡ before ++ (text ++ (ascii.nul ∷ after)))

-- the law of strings: in the bytes of an entry a NUL follows each string that it has
abbrev pub StringsHaveAnEnd : Type 0
StringsHaveAnEnd =
    (bytes names : List ℕ) (contents : Contents) (index : ℕ) (text : List ℕ) → Reads bytes names contents → string_at contents index ≡ Some text
    → IsEndedIn bytes text
