-- Bytes as a source spells them, in what an editor shows (own): terminfo(5).
use Rattle.std.specs.Prelude.{ℕ, ◌&&◌, nat_le, List, map, if◌then◌else◌}
use Rattle.ti_text.specs.Ascii as ascii
use Rattle.ti_spelling.specs.Spelling.{spelling_of}

-- a byte as it is shown: `?` for one that does not print
abbrev pub printed : ℕ → ℕ
printed byte = if nat_le ascii.space byte && nat_le byte ascii.tilde then byte else ascii.question_mark

-- the bytes of a string as the source spells them
abbrev pub spelled : List ℕ → List ℕ
spelled value = map printed (spelling_of value)
