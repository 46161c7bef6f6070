-- Listings and relative sources are laid out as items, whatever the breaks of their lines.
use Rattle.std.specs.Prelude.{ℕ, List, [], ◌∷◌, ◌++◌}
use Rattle.ti_caps.specs.declared.capability.Kind.TheVariants.{Flag, Number, Text}
use Rattle.ti_source.specs.Reading.{Said, said_import}
use Rattle.ti_layout.specs.Values.{Contents}
use Rattle.ti_list.specs.declared.layout.Layout.{Layout}
use Rattle.ti_list.specs.Items.{IsListing}
use Rattle.ti_list.specs.Listing.{kind_items, listing}
use Rattle.ti_layout.specs.View.{Entry}
use Rattle.ti_list.specs.RelativeSource.{first_name, differing_contents, relative}

-- the items of an entry: booleans, numbers, strings, each kind in the order that the layout asks
-- for
abbrev pub entry_items : Layout → Contents → List Said
entry_items layout table = kind_items layout table Flag ++ (kind_items layout table Number ++ kind_items layout table Text)

-- a use of each of the others, by its first name
abbrev pub uses_of : List Entry → List Said
uses_of [] = []
uses_of (other ∷ others) = said_import (first_name other.names) ∷ uses_of others

-- a listing is laid out as the items of its entry
abbrev pub ListingsAreLaidOut : Type 0
ListingsAreLaidOut = (field : List ℕ) (table : Contents) (layout : Layout) → IsListing field (entry_items layout table) (listing field table layout)

-- a relative source is laid out as the items in which the entry differs from the others, and then
-- the uses
abbrev pub RelativesAreLaidOut : Type 0
RelativesAreLaidOut =
    (entry : Entry) (others : List Entry) (layout : Layout)
    → IsListing entry.names (entry_items layout (differing_contents entry.contents others) ++ uses_of others) (relative entry others layout)
