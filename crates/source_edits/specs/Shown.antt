-- Bytes as an editor is sent them (own).
use Rattle.std.specs.Prelude.{ℕ, ◌&&◌, nat_le, List, map, Option, None, Some, if◌then◌else◌}
use Rattle.std.specs.Str.{is_utf8}
use Rattle.ti_text.specs.Ascii as ascii

-- a byte as it is shown: `?` for one that does not print
abbrev pub shown_byte : ℕ → ℕ
shown_byte byte = if nat_le ascii.space byte && nat_le byte ascii.tilde then byte else ascii.question_mark

-- bytes as they are shown
abbrev pub shown : List ℕ → List ℕ
shown bytes = map shown_byte bytes

-- bytes as a text, if they are UTF-8
abbrev pub utf8_of : List ℕ → Option (List ℕ)
utf8_of bytes = if is_utf8 bytes then Some bytes else None
