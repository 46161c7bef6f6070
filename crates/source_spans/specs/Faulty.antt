-- The part of a block that each of its faults is of (own): the names field, a name, or an item. The
-- faults of a block come in the order of its names and items, so each is sought after the one before.
use Rattle.std.specs.Prelude.{ℕ, nat_eq, ◌&&◌, ◌||◌, Bool, false, List, [], ◌∷◌, Option, None, Some, option_and_then, slice_get, if◌then◌else◌}
use Rattle.std.specs.Option.{option_map, option_map_or}
use Rattle.std.specs.Str.{bytes_eq}
use Rattle.ti_source.specs.declared.code.Code.{Code}
use Rattle.ti_source.specs.declared.code.Code.TheVariants as code
use Rattle.ti_source.specs.Code.{label_of}
use Rattle.ti_source.specs.Folding.{PlacedByte}
use Rattle.ti_source.specs.Items.{bytes}
use Rattle.ti_source.specs.Parsing.{reading_of_text}
use Rattle.ti_source.specs.Reading.{ReadFault, ReadItem, Reading, Said, said_import}
use Rattle.source_spans.specs.Folding.{folded_of}
use Rattle.source_spans.specs.Parts.{field_of, names_of, spanned}
use Rattle.source_spans.specs.Subjects.{items_of, lookup_parts}
use Rattle.source_spans.specs.declared.parts.Part.{Part}

-- where the faults of a block can be: its names field, its first name and its items; and what is
-- left of its names, of the faults of its items, and of its accepted items
pub record Search : Type 0 where
  pub head : Option Part
  pub first : Option Part
  pub items : List (List PlacedByte)
  pub names : List (List PlacedByte)
  pub faults : List ReadFault
  pub uses : List ReadItem

-- the first of some parts, where it is
abbrev pub first_of : List (List PlacedByte) → Option Part
first_of names = option_and_then spanned (slice_get names 0)

-- all of a block, with this folded text and this reading
abbrev pub search_in : List PlacedByte → Reading → Search
search_in text reading = record {
  head = spanned (field_of text);
  first = first_of (lookup_parts (names_of (field_of text)));
  items = items_of text;
  names = lookup_parts (names_of (field_of text));
  faults = reading.faults;
  uses = reading.items;
}

-- all of a block
abbrev pub search_of : List ℕ → Search
search_of block = search_in (folded_of block) (reading_of_text block)

-- ---- what is left of a list

-- the first element that is so, and what is after it
abbrev pub first_and_rest : {X : Type 0} → (X → Bool) → List X → Option (X × List X)
first_and_rest is_so [] = None
first_and_rest is_so (x ∷ xs) = if is_so x then Some (x, xs) else first_and_rest is_so xs

-- where the item of an ordinal is
abbrev pub item_part : Search → ℕ → Option Part
item_part s ordinal = option_and_then spanned (slice_get s.items ordinal)

-- a name is found, and those after it are left
abbrev pub found_name : Search → Option (List PlacedByte × List (List PlacedByte)) → Option Part × Search
found_name s None = (None, s)
found_name s (Some (name, names)) =
    (spanned name, record { head = s.head; first = s.first; items = s.items; names = names; faults = s.faults; uses = s.uses })

-- the ordinal of a fault of reading, and the faults after it
abbrev pub ordinal_and_faults : ReadFault × List ReadFault → ℕ × List ReadFault
ordinal_and_faults found = (found.0.ordinal, found.1)

-- a fault of the item of an ordinal is found, and those after it are left
abbrev pub found_fault : Search → Option (ℕ × List ReadFault) → Option Part × Search
found_fault s None = (None, s)
found_fault s (Some (ordinal, faults)) =
    (item_part s ordinal, record { head = s.head; first = s.first; items = s.items; names = s.names; faults = faults; uses = s.uses })

-- the ordinal of an accepted item, and the items after it
abbrev pub ordinal_and_items : ReadItem × List ReadItem → ℕ × List ReadItem
ordinal_and_items found = (found.0.ordinal, found.1)

-- a use by the item of an ordinal is found, and the items after it are left
abbrev pub found_use : Search → Option (ℕ × List ReadItem) → Option Part × Search
found_use s None = (None, s)
found_use s (Some (ordinal, items)) =
    (item_part s ordinal, record { head = s.head; first = s.first; items = s.items; names = s.names; faults = s.faults; uses = items })

-- ---- what a fault is of

-- whether a part is this name
abbrev pub is_name : List ℕ → List PlacedByte → Bool
is_name name part = bytes_eq (bytes part) name

-- whether a code of reading is that of a fault: an item of a user-defined name has an unknown one
-- there, whatever its fault is
abbrev pub is_code : Code → Code → Bool
is_code read c = bytes_eq (label_of read) (label_of c) || bytes_eq (label_of read) (label_of code.UnknownCapability)

-- whether a fault of reading is on a line, of that code and of that name
abbrev pub is_fault : ℕ → Code → List ℕ → ReadFault → Bool
is_fault line c name fault = nat_eq fault.line line && is_code fault.code c && option_map_or (λ detail. bytes_eq detail name) fault.detail false

-- whether an item says that the items of the entry of a name come there
abbrev pub uses_name : List ℕ → Said → Bool
uses_name name (said_import used) = bytes_eq used name
uses_name name _ = false

-- whether an item is on a line and uses a name
abbrev pub is_use : ℕ → List ℕ → ReadItem → Bool
is_use line name item = nat_eq item.line line && uses_name name item.said

-- the part that a fault of a name is of: the next name, the next item that uses it, or that of the
-- next such fault of reading
abbrev pub find_named : Search → ℕ → Code → List ℕ → Option Part × Search
find_named s line code.DuplicateName name = found_name s (first_and_rest (is_name name) s.names)
find_named s line code.MissingUse name = found_use s (option_map ordinal_and_items (first_and_rest (is_use line name) s.uses))
find_named s line code.Circular name = found_use s (option_map ordinal_and_items (first_and_rest (is_use line name) s.uses))
find_named s line code.Unresolved name = found_use s (option_map ordinal_and_items (first_and_rest (is_use line name) s.uses))
find_named s line c name = found_fault s (option_map ordinal_and_faults (first_and_rest (is_fault line c name) s.faults))

-- the same, if it has a name
abbrev pub find_if_named : Search → ℕ → Code → Option (List ℕ) → Option Part × Search
find_if_named s line c None = (None, s)
find_if_named s line c (Some name) = find_named s line c name

-- the part that a fault of this line, code and detail is of, and what is left then: that of the
-- names field, the first name, or by its name
abbrev pub find : Search → ℕ → Code → Option (List ℕ) → Option Part × Search
find s line code.BadHeader detail = (s.head, s)
find s line code.NamesTooLong detail = (s.head, s)
find s line code.TooLarge detail = (s.first, s)
find s line c detail = find_if_named s line c detail

-- ---- the parts of all faults of a block

-- a fault as it is sought: its line in the block, its code, and its detail
pub record Sought : Type 0 where
  pub line : ℕ
  pub code : Code
  pub detail : Option (List ℕ)

-- the part that a fault is of, and what is left then
abbrev pub find_sought : Search → Sought → Option Part × Search
find_sought s sought = find s sought.line sought.code sought.detail

-- the parts that faults are of, in order
abbrev pub parts_from : Search → List Sought → List (Option Part)
parts_from s [] = []
parts_from s (fault ∷ faults) = (find_sought s fault).0 ∷ parts_from (find_sought s fault).1 faults

-- the parts that the faults of a block are of
abbrev pub parts_of : List ℕ → List Sought → List (Option Part)
parts_of block faults = parts_from (search_of block) faults
