-- An entry as infocmp(1) lists it at `-x`: the user-defined items of a kind follow those of the
-- tables, in the order of their names.
use Rattle.std.specs.Prelude.{◌≡◌, ℕ, List, [], ◌∷◌, ◌++◌, All, None}
use Rattle.std.specs.List.{flat_map}
use Rattle.ti_text.specs.Ascii as ascii
use Rattle.ti_caps.specs.declared.capability.Kind.{Kind}
use Rattle.ti_caps.specs.declared.capability.Kind.TheVariants.{Flag, Number, Text}
use Rattle.ti_list.specs.declared.layout.Layout.{Layout}
use Rattle.user_extension.specs.Reading.{ReadRow, said}
use Rattle.user_listing.specs.Entries.{Extended}
use Rattle.user_listing.specs.Names.{names_of_kind, of_kind}
use Rattle.user_listing.specs.Items.{item_if_said, kind_lines, table_items}

-- the user-defined items of a kind: of each name that has a value of that kind
abbrev pub user_items : Kind → List ReadRow → List (List ℕ)
user_items kind rows = flat_map (λ (name : List ℕ). item_if_said name (of_kind kind (said rows name))) (names_of_kind kind rows)

-- the lines of a kind
abbrev pub listed_kind : Layout → Extended → Kind → List ℕ
listed_kind layout entry kind = kind_lines layout (table_items layout entry.entry.contents kind ++ user_items kind entry.rows)

-- the listing of an entry: its names field, and the items of each kind in turn
abbrev pub extended_listing : Extended → Layout → List ℕ
extended_listing entry layout =
    entry.entry.names ++ ascii.comma ∷ listed_kind layout entry Flag ++ listed_kind layout entry Number ++ listed_kind layout entry Text ++ ascii.newline ∷ []

-- no user-defined name has a value
abbrev pub HasNoUserDefined : Extended → Type 0
HasNoUserDefined entry = All (λ (row : ReadRow). row.1 ≡ None) entry.rows
