-- An entry as infocmp(1) lists it: its items by kind, in an order and a layout that the caller
-- chooses (own).
use Rattle.std.specs.Prelude.{ℕ, ◌+◌, ◌||◌, nat_lt, if◌then◌else◌, List, [], ◌∷◌, ◌++◌, length, map, Option, Some, None}
use Rattle.std.specs.List.{range_with_len}
use Rattle.ti_text.specs.Ascii as ascii
use Rattle.ti_caps.specs.Tables.{Capability, capability, count_of}
use Rattle.ti_caps.specs.NameOrder.{in_name_order}
use Rattle.ti_caps.specs.declared.capability.Kind.{Kind}
use Rattle.ti_caps.specs.declared.capability.Kind.TheVariants.{Flag, Number, Text}
use Rattle.ti_source.specs.Reading.{Said, said_flag, said_number, said_text, said_cancel}
use Rattle.ti_layout.specs.Values.{Content, content_true, content_number, content_text, content_cancelled, Contents}
use Rattle.ti_list.specs.declared.layout.Order.{Order}
use Rattle.ti_list.specs.declared.layout.Order.TheVariants as order
use Rattle.ti_list.specs.declared.layout.Layout.{Layout}
use Rattle.ti_list.specs.Items.{item_text}

-- ---- the order of the capabilities of one kind

-- in the order of the compiled entry
abbrev pub by_index : Kind → List Capability
by_index kind = map (capability kind) (range_with_len 0 (count_of kind))

-- the capabilities of a kind in an order: as in the compiled entry, or by the bytes of their names
unfoldable pub in_order : Order → Kind → List Capability
in_order order.Table kind = by_index kind
in_order order.Name kind = in_name_order kind

-- ---- the items of an entry

-- the item that says what a capability has; none if it has nothing
abbrev pub item_for : Capability → Option Content → List Said
item_for c None = []
item_for c (Some content_true) = said_flag c ∷ []
item_for c (Some (content_number n)) = said_number c n ∷ []
item_for c (Some (content_text t)) = said_text c t ∷ []
item_for c (Some content_cancelled) = said_cancel c ∷ []

-- the items of some capabilities, in order
abbrev pub items_for : Contents → List Capability → List Said
items_for table [] = []
items_for table (c ∷ cs) = item_for c (table c) ++ items_for table cs

-- the items of a kind, in the order that the layout asks for
abbrev pub kind_items : Layout → Contents → Kind → List Said
kind_items layout table kind = items_for table (in_order layout.order kind)

-- ---- the lines

-- the columns that an item takes, with its comma
abbrev pub size_of : Said → ℕ
size_of item = length (item_text item) + 1

-- further items of a kind when this number of columns of the line is taken: an item is on the line,
-- after a space, unless it would bring the line past the width or each item is to be on its own
-- line
abbrev pub further_items : Layout → ℕ → List Said → List ℕ
further_items layout column [] = []
further_items layout column (item ∷ items) =
    if layout.one_per_line || nat_lt layout.width (column + 1 + size_of item)
    then ascii.newline ∷ ascii.tab ∷ item_text item ++ ascii.comma ∷ further_items layout (8 + size_of item) items
    else ascii.space ∷ item_text item ++ ascii.comma ∷ further_items layout (column + 1 + size_of item) items

-- the items of a kind, of which the first begins a line; a tab takes 8 columns
abbrev pub lines_of : Layout → List Said → List ℕ
lines_of layout [] = []
lines_of layout (item ∷ items) = ascii.newline ∷ ascii.tab ∷ item_text item ++ ascii.comma ∷ further_items layout (8 + size_of item) items

-- the names field and the items of each kind in turn
abbrev pub source_lines : List ℕ → Contents → Layout → List ℕ
source_lines field table layout =
    field ++ ascii.comma ∷ lines_of layout (kind_items layout table Flag)
    ++ lines_of layout (kind_items layout table Number) ++ lines_of layout (kind_items layout table Text)

-- the listing of an entry
abbrev pub listing : List ℕ → Contents → Layout → List ℕ
listing field table layout = source_lines field table layout ++ ascii.newline ∷ []
