-- Names that a path can hold (own).
use Rattle.std.specs.Prelude.{ℕ, ◌<◌, All, length, List}
use Rattle.ti_text.specs.Ascii as ascii

-- a name that is not empty and has only ASCII bytes
abbrev pub IsAsciiName : List ℕ → Type 0
IsAsciiName name = (0 < length name) × All (λ byte. byte < ascii.size) name
