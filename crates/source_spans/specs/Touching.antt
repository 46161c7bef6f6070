-- The item that an offset of a block is on, as it is written (own).
use Rattle.ti_text.specs.Ascii as ascii
use Rattle.std.specs.Prelude.{ℕ, ◌-◌, ◌==◌, List, length, take, Option, None, Some, if◌then◌else◌}
use Rattle.std.specs.List.{position}
use Rattle.std.specs.Option.{option_map}
use Rattle.ti_text.specs.Texts.{last_byte}
use Rattle.ti_source.specs.Folding.{PlacedByte}
use Rattle.ti_source.specs.Items.{bytes, is_mark}
use Rattle.source_spans.specs.Folding.{folded_of}
use Rattle.source_spans.specs.Parts.{spanned}
use Rattle.source_spans.specs.Subjects.{is_on, items_of, part_on, span_or_start, without_end}
use Rattle.source_spans.specs.declared.parts.Part.{Part}
use Rattle.source_spans.specs.declared.touching.Item.{Item}

-- an item as plain data: where it is, its name, and its bytes
pub record ItemSeen : Type 0 where
  pub span : Part
  pub name : List ℕ
  pub text : List ℕ

-- an item that holds its bytes in memory, as plain data
abbrev pub item_seen : Item → ItemSeen
item_seen item = record { span = item.span; name = item.name.items; text = item.text.items }

-- what is before the first `#` or `=`, if there is one
abbrev pub marked_name : List PlacedByte → Option (List PlacedByte)
marked_name item = option_map (λ at. take at item) (position (λ x. is_mark x.0) item)

-- bytes without an `@` at their end
abbrev pub without_at : List PlacedByte → List PlacedByte
without_at item = if last_byte 0 (bytes item) == ascii.at_sign then take (length item - 1) item else item

-- the name, given what is before the first mark
abbrev pub name_or : Option (List PlacedByte) → List PlacedByte → List PlacedByte
name_or None item = without_at item
name_or (Some name) item = name

-- the name of an item that has no white space around it
abbrev pub name_of : List PlacedByte → List PlacedByte
name_of item = name_or (marked_name item) item

-- an item as it is written
abbrev pub seen_of : List PlacedByte → ItemSeen
seen_of item = record { span = span_or_start (spanned item); name = bytes (name_of (without_end item)); text = bytes (without_end item) }

-- the item that an offset of a folded text is on
abbrev pub item_in : List PlacedByte → ℕ → Option ItemSeen
item_in text offset = option_map seen_of (part_on offset (items_of text))

-- the item that an offset of a block is on
abbrev pub item_at : List ℕ → ℕ → Option ItemSeen
item_at block offset = item_in (folded_of block) offset

-- the ordinal of the item that an offset of a block is on: which of its items that is, from 0
abbrev pub ordinal_at : List ℕ → ℕ → Option ℕ
ordinal_at block offset = position (is_on offset) (items_of (folded_of block))
