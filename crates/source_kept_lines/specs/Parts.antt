-- The parts of a line (terminfo(5); X/Open Curses Issue 7, "Terminfo Source Format"): what it holds of
-- the names field and of each item, with the comma that ends one.
use Rattle.ti_text.specs.Ascii as ascii
use Rattle.ti_text.specs.WhiteSpace.{is_white_space}
use Rattle.std.specs.Prelude.{ℕ, ◌==◌, ◌&&◌, not, Bool, true, false, if◌then◌else◌, List, [], ◌∷◌}
use Rattle.source_format.specs.Pieces.{with_first_byte}
use Rattle.source_kept_lines.specs.declared.parts.Reached.{Reached}
use Rattle.source_kept_lines.specs.declared.parts.Reached.TheVariants as reached

-- ---- how far a block is read

-- what is reached by a byte of an item that nothing takes; whether a `%` is just before it
abbrev pub by_byte : Bool → ℕ → Reached
by_byte percent byte =
    if byte == ascii.comma then reached.NoItem
    else if byte == ascii.backslash then reached.Backslash
    else if byte == ascii.caret && not percent then reached.Caret
    else if byte == ascii.percent then reached.Percent
    else reached.Item

-- what is reached by a byte that a backslash or a `^` takes
abbrev pub by_taken : ℕ → Reached
by_taken byte = if byte == ascii.percent then reached.Percent else reached.Item

-- what is reached by a byte: the names field goes up to a comma, and an item, which white space does
-- not begin, up to a comma that no backslash takes
abbrev pub after_byte : Reached → ℕ → Reached
after_byte reached.Names byte = if byte == ascii.comma then reached.NoItem else reached.Names
after_byte reached.NoItem byte = if is_white_space byte then reached.NoItem else by_byte false byte
after_byte reached.Item byte = by_byte false byte
after_byte reached.Percent byte = by_byte true byte
after_byte reached.Backslash byte = by_taken byte
after_byte reached.Caret byte = if byte == ascii.comma then reached.NoItem else by_taken byte

-- what is reached by a text
abbrev pub after : Reached → List ℕ → Reached
after r [] = r
after r (x ∷ xs) = after (after_byte r x) xs

-- whether no item is begun
abbrev pub is_between : Reached → Bool
is_between reached.NoItem = true
is_between r = false

-- ---- parts

-- whether a byte is white space before an item
abbrev pub is_gap : Reached → ℕ → Bool
is_gap reached.NoItem byte = is_white_space byte
is_gap r byte = false

-- whether a byte ends the names field or an item
abbrev pub ends : Reached → ℕ → Bool
ends reached.Backslash byte = false
ends r byte = byte == ascii.comma

-- the parts of a text, each with the comma that ends it, without the white space before items
abbrev pub parts : Reached → List ℕ → List (List ℕ)
parts r [] = []
parts r (x ∷ xs) =
    if is_gap r x then parts (after_byte r x) xs
    else if ends r x then (x ∷ []) ∷ parts (after_byte r x) xs
    else with_first_byte x (parts (after_byte r x) xs)
