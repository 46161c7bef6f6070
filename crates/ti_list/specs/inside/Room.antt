-- How many bytes are enough for a listing, by its items alone (own): a number has at most ten
-- digits, and a byte of a string takes at most four.
use Rattle.std.specs.Prelude.{ℕ, ◌+◌, ◌*◌, List, [], ◌∷◌, length}
use Rattle.ti_caps.specs.Tables.{name_of}
use Rattle.ti_source.specs.Reading.{Said, said_flag, said_number, said_text, said_cancel, said_import}
use Rattle.ti_caps.specs.declared.capability.Kind.TheVariants.{Flag, Number, Text}
use Rattle.ti_list.specs.declared.layout.Order.{Order}
use Rattle.ti_list.specs.Listing.{in_order, items_for}
use Rattle.ti_layout.specs.View.{Entry}
use Rattle.ti_list.specs.RelativeSource.{first_name, differing_contents}

-- enough for an item, with its comma and what is before it
abbrev pub item_room : Said → ℕ
item_room (said_flag c) = length (name_of c) + 3
item_room (said_number c n) = length (name_of c) + 14
item_room (said_text c t) = length (name_of c) + 4 + 4 * length t
item_room (said_cancel c) = length (name_of c) + 4
item_room (said_import name) = length name + 7

-- enough for several items
abbrev pub items_room : List Said → ℕ
items_room [] = 0
items_room (item ∷ items) = item_room item + items_room items

-- enough for a use of each of the others
abbrev pub uses_room : List Entry → ℕ
uses_room [] = 0
uses_room (o ∷ os) = length (first_name o.names) + 7 + uses_room os

-- enough for the source of an entry that uses the others, whatever its layout
abbrev pub source_room : Entry → List Entry → Order → ℕ
source_room entry others order =
    length entry.names + 2 + items_room (items_for (differing_contents entry.contents others) (in_order order Flag)) + items_room
    (items_for (differing_contents entry.contents others) (in_order order Number))
    + items_room (items_for (differing_contents entry.contents others) (in_order order Text)) + uses_room others
