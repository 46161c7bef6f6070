-- An entry as it differs from others (infocmp(1), `-u` at `-x`).
use Rattle.std.specs.Prelude.{ℕ, if◌then◌else◌, List, [], ◌∷◌, ◌++◌, Option, None}
use Rattle.std.specs.List.{flat_map}
use Rattle.std.specs.Option.{option_or}
use Rattle.ti_text.specs.Ascii as ascii
use Rattle.ti_caps.specs.declared.capability.Kind.{Kind}
use Rattle.ti_caps.specs.declared.capability.Kind.TheVariants.{Flag, Number, Text}
use Rattle.ti_layout.specs.Values.{Content}
use Rattle.ti_list.specs.declared.layout.Layout.{Layout}
use Rattle.ti_list.specs.RelativeSource.{difference, differing_contents, use_lines}
use Rattle.user_extension.specs.Reading.{said}
use Rattle.user_listing.specs.Entries.{Extended, entries_in}
use Rattle.user_listing.specs.Names.{is_of_kind, names_among}
use Rattle.user_listing.specs.Items.{item_if_said, kind_lines, table_items}

-- what the first of the entries that has the user-defined name has of it
abbrev pub first_said : List Extended → List ℕ → Option Content
first_said [] name = None
first_said (other ∷ others) name = option_or (said other.rows name) (first_said others name)

-- what a relative source says of a user-defined name among the items of a kind, given what the
-- entry and the others have of it: a value is among those of its own kind, and a cancel among those
-- of the kind that the others have
abbrev pub user_difference : Kind → Option Content → Option Content → Option Content
user_difference kind own theirs = if is_of_kind kind (option_or own theirs) then difference own theirs else None

-- the user-defined items of a kind that differ
abbrev pub differing_items : Kind → Extended → List Extended → List (List ℕ)
differing_items kind entry others =
    flat_map (λ (name : List ℕ). item_if_said name (user_difference kind (said entry.rows name) (first_said others name))) (names_among kind entry others)

-- the lines of a kind
abbrev pub differing_kind : Layout → Extended → List Extended → Kind → List ℕ
differing_kind layout entry others kind =
    kind_lines layout (table_items layout (differing_contents entry.entry.contents (entries_in others)) kind ++ differing_items kind entry others)

-- the relative source of an entry: the items that differ, as in a listing, and then the uses
abbrev pub extended_relative : Extended → List Extended → Layout → List ℕ
extended_relative entry others layout =
    entry.entry.names ++ ascii.comma ∷ differing_kind layout entry others Flag ++ differing_kind layout entry others Number
    ++ differing_kind layout entry others Text ++ use_lines (entries_in others) ++ ascii.newline ∷ []
