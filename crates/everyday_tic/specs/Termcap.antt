-- Termcap source (termcap(5)): the fields of an entry end in colons, and a line that goes on ends in a
-- backslash; in terminfo source they end in commas (terminfo(5), "Source files").
use Rattle.std.specs.Prelude.{◌≡◌, ◌<◌, ◌==◌, ◌&&◌, ℕ, Bool, true, false, not, List, [], ◌∷◌, Option, Some, None, codes, slice_get, if◌then◌else◌}
use Rattle.std.specs.List.{list_any}
use Rattle.ti_text.specs.Ascii as ascii

-- the first line of a text, without its newline
abbrev pub first_line : List ℕ → List ℕ
first_line [] = []
first_line (byte ∷ bytes) = if byte == ascii.newline then [] else byte ∷ first_line bytes

-- whether a byte is in a text
abbrev pub has : ℕ → List ℕ → Bool
has byte text = list_any (λ other. other == byte) text

-- whether a text of a block is termcap: its first line has a colon and no comma
abbrev pub is_termcap : List ℕ → Bool
is_termcap text = has ascii.colon (first_line text) && not (has ascii.comma (first_line text))

-- where the first of these blocks is that is termcap, if one is
abbrev pub IsFirstTermcap : List (List ℕ) → Option ℕ → Type 0
IsFirstTermcap texts None = (at : ℕ) (text : List ℕ) → slice_get texts at ≡ Some text → is_termcap text ≡ false
IsFirstTermcap texts (Some at) =
    ((text : List ℕ) × (slice_get texts at ≡ Some text) × (is_termcap text ≡ true))
    × ((before : ℕ) (text : List ℕ) → before < at → slice_get texts before ≡ Some text → is_termcap text ≡ false)

-- what is reported about it
abbrev pub termcap_source : List ℕ
termcap_source = codes "This is termcap source, which is not compiled. Convert it to terminfo source with `captoinfo`."
