-- The names field and the items of a folded text, as parts of it (terminfo(5); X/Open Curses Issue
-- 7, "Terminfo Source Format").
use Rattle.ti_text.specs.Ascii as ascii
use Rattle.std.specs.Prelude.{ℕ, suc, ◌≤◌, ◌==◌, List, [], ◌∷◌, length, map, Option, None, Some, if◌then◌else◌}
use Rattle.std.specs.List.{slice_range}
use Rattle.ti_source.specs.Folding.{PlacedByte}
use Rattle.ti_source.specs.Header.{PartsOf}
use Rattle.ti_source.specs.Items.{AreItems, Begins, bytes, takes}
use Rattle.source_spans.specs.declared.parts.Part.{Part}

-- the bytes of a part
abbrev pub part_of : List PlacedByte → Part → List PlacedByte
part_of text part = slice_range text part.start part.end

-- the bytes of a part, without their places
abbrev pub text_of : List PlacedByte → Part → List ℕ
text_of text part = bytes (part_of text part)

-- a part is one of the text
abbrev pub IsWithin : List PlacedByte → Part → Type 0
IsWithin text part = (part.start ≤ part.end) × (part.end ≤ length text)

-- the offset after the last byte, or `end` if there is none
abbrev pub end_of : ℕ → List PlacedByte → ℕ
end_of end [] = end
end_of end (x ∷ xs) = end_of (suc x.1) xs

-- where bytes are in their block: from the offset of the first to after that of the last
abbrev pub spanned : List PlacedByte → Option Part
spanned [] = None
spanned (x ∷ xs) = Some (record { start = x.1; end = end_of (suc x.1) xs })

-- ---- the parts, computed

-- the names field of a folded text: what is before the first comma, or all
abbrev pub field_of : List PlacedByte → List PlacedByte
field_of [] = []
field_of (x ∷ xs) = if x.0 == ascii.comma then [] else x ∷ field_of xs

-- what is after that comma, or nothing
abbrev pub rest_of : List PlacedByte → List PlacedByte
rest_of [] = []
rest_of (x ∷ xs) = if x.0 == ascii.comma then xs else rest_of xs

-- parts with a byte at the front of the first of them
abbrev pub with_first : PlacedByte → List (List PlacedByte) → List (List PlacedByte)
with_first x [] = (x ∷ []) ∷ []
with_first x (part ∷ parts) = (x ∷ part) ∷ parts

-- the parts of a names field between its bars
abbrev pub names_of : List PlacedByte → List (List PlacedByte)
names_of [] = [] ∷ []
names_of (x ∷ xs) = if x.0 == ascii.bar then [] ∷ names_of xs else with_first x (names_of xs)

-- the items of a text that is just after the byte `before`
abbrev pub items_after : ℕ → List PlacedByte → List (List PlacedByte)
items_after before [] = [] ∷ []
items_after before (x ∷ []) = if x.0 == ascii.comma then [] ∷ [] ∷ [] else (x ∷ []) ∷ []
items_after before (x ∷ y ∷ ys) =
    if x.0 == ascii.comma then [] ∷ items_after ascii.comma (y ∷ ys)
    else if takes before x.0 y.0 then with_first x (with_first y (items_after y.0 ys))
    else with_first x (items_after x.0 (y ∷ ys))

-- these are the field and the rest, the names and the items
abbrev pub FieldsAreComputed : Type 0
FieldsAreComputed = (text : List PlacedByte) → Begins text (field_of text) (rest_of text)

-- the names that are computed are the parts of the field
abbrev pub NamesAreComputed : Type 0
NamesAreComputed = (field : List PlacedByte) → PartsOf (bytes field) (map bytes (names_of field))

-- the items that are computed are those of the text
abbrev pub ItemsAreComputed : Type 0
ItemsAreComputed = (before : ℕ) (text : List PlacedByte) → AreItems before text (items_after before text)
