-- What an offset of a block is on: a name in its head, or an item `use=` (terminfo(5); which one an
-- offset at an end is on is own).
use Rattle.ti_text.specs.Ascii as ascii
use Rattle.std.specs.Prelude.{ℕ, ◌-◌, ◌==◌, ◌&&◌, nat_le, Bool, true, false, List, [], ◌∷◌, codes, drop, flat_map, length, map, take, Option, None, Some}
use Rattle.std.specs.Prelude.{option_and_then, if◌then◌else◌}
use Rattle.std.specs.List.{find, list_all}
use Rattle.std.specs.Option.{option_map, option_map_or, option_or, option_to_list}
use Rattle.std.specs.Str.{bytes_eq}
use Rattle.ti_text.specs.WhiteSpace.{is_white_space}
use Rattle.ti_source.specs.Folding.{PlacedByte}
use Rattle.ti_source.specs.Items.{bytes, without_front}
use Rattle.source_spans.specs.Folding.{folded_of}
use Rattle.source_spans.specs.Parts.{field_of, items_after, names_of, rest_of, spanned}
use Rattle.source_spans.specs.declared.parts.Part.{Part}
use Rattle.source_spans.specs.declared.subjects.Subject.{Subject}
use Rattle.source_spans.specs.declared.subjects.Subject.TheVariants as subject
use Rattle.source_spans.specs.declared.subjects.Touched.{Touched}
use Rattle.source_spans.specs.declared.items.Use.{Use}

-- ---- the head of a block

-- where bytes are, or the start of the block if there are none
abbrev pub span_or_start : Option Part → Part
span_or_start None = record { start = 0; end = 0 }
span_or_start (Some span) = span

-- where the names field of a block is
abbrev pub head_span : List ℕ → Part
head_span block = span_or_start (spanned (field_of (folded_of block)))

-- its bytes
abbrev pub head_text : List ℕ → List ℕ
head_text block = bytes (field_of (folded_of block))

-- the names of a field that can be looked up: all but the last of two or more, the description
abbrev pub lookup_parts : List (List PlacedByte) → List (List PlacedByte)
lookup_parts names = if length names == 1 then names else take (length names - 1) names

-- where bytes are, if they are this name
abbrev pub span_if : List ℕ → List PlacedByte → List Part
span_if name part = if bytes_eq (bytes part) name then option_to_list (spanned part) else []

-- where a block has this name in its head
abbrev pub own_spans : List ℕ → List ℕ → List Part
own_spans name block = flat_map (span_if name) (lookup_parts (names_of (field_of (folded_of block))))

-- ---- the items of a block

-- the items of a folded text, without the white space at their front
abbrev pub items_of : List PlacedByte → List (List PlacedByte)
items_of text = map without_front (items_after ascii.comma (rest_of text))

-- bytes without the white space at their end
abbrev pub without_end : List PlacedByte → List PlacedByte
without_end [] = []
without_end (x ∷ xs) = if list_all is_white_space (bytes (x ∷ xs)) then [] else x ∷ without_end xs

-- a text begins with these bytes
abbrev pub begins_with : List ℕ → List PlacedByte → Bool
begins_with [] text = true
begins_with (byte ∷ bytes) [] = false
begins_with (byte ∷ bytes) (x ∷ xs) = x.0 == byte && begins_with bytes xs

-- the name that an item uses, if it is a `use=`
abbrev pub used_name : List PlacedByte → Option (List PlacedByte)
used_name item = if begins_with (codes "use=") item then Some (without_end (without_front (drop 4 item))) else None

-- a use as plain data: where its name is, and the name
pub record UseSeen : Type 0 where
  pub span : Part
  pub name : List ℕ

-- a use that holds its name in memory, as plain data
abbrev pub use_seen : Use → UseSeen
use_seen found = record { span = found.span; name = found.name.items }

-- the use of a name of these bytes at that place
abbrev pub use_at : List PlacedByte → Option Part → List UseSeen
use_at name None = []
use_at name (Some span) = record { span = span; name = bytes name } ∷ []

-- the use that an item is, if its name is not empty
abbrev pub use_in : Option (List PlacedByte) → List UseSeen
use_in None = []
use_in (Some name) = use_at name (spanned name)

-- the uses of a block, in order
abbrev pub uses_of : List ℕ → List UseSeen
uses_of block = flat_map (λ item. use_in (used_name item)) (items_of (folded_of block))

-- ---- what an offset is on

-- whether an offset is on bytes: from the first of them to after the last
abbrev pub is_on : ℕ → List PlacedByte → Bool
is_on offset text = option_map_or (λ span. nat_le span.start offset && nat_le offset span.end) (spanned text) false

-- the first of these parts that an offset is on
abbrev pub part_on : ℕ → List (List PlacedByte) → Option (List PlacedByte)
part_on offset parts = find (is_on offset) parts

-- what an offset is on, as plain data: a name by which the block is found, or a name that an item
-- uses
pub data SubjectSeen : Type 0 where
  own_name : List ℕ → SubjectSeen
  used : List ℕ → SubjectSeen

-- what an offset is on, where that is, and where its name is
pub record TouchedSeen : Type 0 where
  pub span : Part
  pub name : Part
  pub subject : SubjectSeen

-- a subject that holds its name in memory, as plain data
abbrev pub subject_seen : Subject → SubjectSeen
subject_seen (subject.OwnName name) = own_name name.items
subject_seen (subject.Used name) = used name.items

-- what is touched, as plain data
abbrev pub touched_seen : Touched → TouchedSeen
touched_seen found = record { span = found.span; name = found.name; subject = subject_seen found.subject }

-- a name of a head
abbrev pub touched_name : List PlacedByte → TouchedSeen
touched_name name = record { span = span_or_start (spanned name); name = span_or_start (spanned name); subject = own_name (bytes name) }

-- an item, if it is a `use=`
abbrev pub touched_item : List PlacedByte → Option TouchedSeen
touched_item item =
    option_map (λ name. record { span = span_or_start (spanned item); name = span_or_start (spanned name); subject = used (bytes name) }) (used_name item)

-- what an offset of a folded text is on
abbrev pub subject_in : List PlacedByte → ℕ → Option TouchedSeen
subject_in text offset =
    option_or (option_map touched_name (part_on offset (lookup_parts (names_of (field_of text)))))
    (option_and_then touched_item (part_on offset (items_of text)))

-- what an offset of a block is on
abbrev pub subject_at : List ℕ → ℕ → Option TouchedSeen
subject_at block offset = subject_in (folded_of block) offset
