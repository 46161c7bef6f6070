-- Items of user-defined names as they are written, and how items stand on lines (infocmp(1)).
use Rattle.std.specs.Prelude.{ℕ, ◌+◌, ◌||◌, nat_lt, if◌then◌else◌, List, [], ◌∷◌, ◌++◌, length, map, Option, Some, None}
use Rattle.std.specs.Fmt.{decimal}
use Rattle.ti_text.specs.Ascii as ascii
use Rattle.ti_caps.specs.declared.capability.Kind.{Kind}
use Rattle.ti_spelling.specs.Spelling.{spelling_of}
use Rattle.ti_layout.specs.Values.{Content, content_true, content_number, content_text, content_cancelled, Contents}
use Rattle.ti_list.specs.declared.layout.Layout.{Layout}
use Rattle.ti_list.specs.Items.{item_text}
use Rattle.ti_list.specs.Listing.{kind_items}

-- an item that says what a name has, without the comma that ends it: `Tc`, `U8#1`, `Ss=\E[%p1%d q`,
-- `Tc@`
abbrev pub named_item : List ℕ → Content → List ℕ
named_item name content_true = name
named_item name (content_number n) = name ++ ascii.number_sign ∷ decimal n
named_item name (content_text t) = name ++ ascii.equals ∷ spelling_of t
named_item name content_cancelled = name ++ ascii.at_sign ∷ []

-- the item of a name, none if nothing is said about it
abbrev pub item_if_said : List ℕ → Option Content → List (List ℕ)
item_if_said name None = []
item_if_said name (Some content) = named_item name content ∷ []

-- the items of a kind that are of the tables, in the order that the layout asks for
abbrev pub table_items : Layout → Contents → Kind → List (List ℕ)
table_items layout table kind = map item_text (kind_items layout table kind)

-- ---- the lines, as of a listing without user-defined names

-- the columns that an item takes, with its comma
abbrev pub columns_of : List ℕ → ℕ
columns_of item = length item + 1

-- further items of a kind when this number of columns of the line is taken: an item is on the line,
-- after a space, unless it would bring the line past the width or each item is to be on its own
-- line
abbrev pub further_lines : Layout → ℕ → List (List ℕ) → List ℕ
further_lines layout column [] = []
further_lines layout column (item ∷ items) =
    if layout.one_per_line || nat_lt layout.width (column + 1 + columns_of item)
    then ascii.newline ∷ ascii.tab ∷ item ++ ascii.comma ∷ further_lines layout (8 + columns_of item) items
    else ascii.space ∷ item ++ ascii.comma ∷ further_lines layout (column + 1 + columns_of item) items

-- the items of a kind, of which the first begins a line; a tab takes 8 columns
abbrev pub kind_lines : Layout → List (List ℕ) → List ℕ
kind_lines layout [] = []
kind_lines layout (item ∷ items) = ascii.newline ∷ ascii.tab ∷ item ++ ascii.comma ∷ further_lines layout (8 + columns_of item) items
