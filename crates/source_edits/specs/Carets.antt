-- The `^` at the end of a string, which takes nothing (terminfo(5), "Types of Capabilities": `^x`
-- is control-x). A backslash before it makes it a `^`.
use Rattle.std.specs.Prelude.{ℕ, suc, ◌-◌, ◌==◌, Bool, is_ok, List, [], ◌∷◌, ◌++◌, length, take, Option, None, Some, option_and_then, if◌then◌else◌}
use Rattle.std.specs.List.{last_or}
use Rattle.ti_text.specs.Ascii as ascii
use Rattle.ti_spelling.specs.inside.Spelling.{unescape_result}
use Rattle.ti_source.specs.Folding.{PlacedByte}
use Rattle.ti_source.specs.Items.{bytes}
use Rattle.source_spans.specs.declared.parts.Part.{Part}

-- where a byte is, if it is a `^`
abbrev pub caret_at : PlacedByte → Option Part
caret_at x = if x.0 == ascii.caret then Some (record { start = x.1; end = suc x.1 }) else None

-- where the last byte of a value is, if it is a `^`
abbrev pub caret_at_end : List PlacedByte → Option Part
caret_at_end value = option_and_then caret_at (last_or None value)

-- whether a text spells a string
abbrev pub can_be_read : List ℕ → Bool
can_be_read text = is_ok (unescape_result text)

-- a value that ends with a `^`, with a backslash before that
abbrev pub with_backslash : List ℕ → List ℕ
with_backslash value = take (length value - 1) value ++ ascii.backslash ∷ ascii.caret ∷ []

-- where the `^` at the end of a value is, if the value is read once a backslash is before it
abbrev pub healing_caret : List PlacedByte → Option Part
healing_caret value = if can_be_read (with_backslash (bytes value)) then caret_at_end value else None
