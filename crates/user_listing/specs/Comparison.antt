-- Two entries compared with their user-defined capabilities (infocmp(1), `-d`, `-c` and `-n` at
-- `-x`).
use Rattle.std.specs.Prelude.{ℕ, if◌then◌else◌, List, [], ◌∷◌, ◌++◌, Option, Some, None, codes}
use Rattle.std.specs.List.{flat_map}
use Rattle.ti_text.specs.Ascii as ascii
use Rattle.ti_caps.specs.declared.capability.Kind.{Kind}
use Rattle.ti_caps.specs.declared.capability.Kind.TheVariants.{Flag, Number, Text}
use Rattle.ti_layout.specs.Values.{Content}
use Rattle.ti_list.specs.declared.layout.Order.{Order}
use Rattle.ti_list.specs.declared.layout.Mode.{Mode}
use Rattle.ti_list.specs.declared.layout.Mode.TheVariants.{Differ, Common, Neither}
use Rattle.ti_list.specs.Listing.{in_order}
use Rattle.ti_list.specs.Comparison.{have_same, kind_heading, rows, value_separator, value_text}
use Rattle.ti_list.specs.RelativeSource.{first_name}
use Rattle.user_extension.specs.Reading.{said}
use Rattle.user_listing.specs.Entries.{Extended}
use Rattle.user_listing.specs.Names.{names_among, of_kind}

-- the row of a name of a kind whose values differ
abbrev pub differing_row : Kind → List ℕ → Option Content → Option Content → List ℕ
differing_row kind name one other = ascii.tab ∷ name ++ codes ": " ++ value_text kind one ++ value_separator kind ++ value_text kind other ++ codes ".\n"

-- the row of a name of a kind whose values are equal
abbrev pub common_row : Kind → List ℕ → Option Content → List ℕ
common_row kind name one = ascii.tab ∷ name ++ codes "= " ++ value_text kind one ++ codes ".\n"

-- the row of a name that neither entry has
abbrev pub neither_row : List ℕ → List ℕ
neither_row name = codes "\t!" ++ name ++ codes ".\n"

-- the row of a name of a kind, given what the two entries have of it; nothing if the mode does not
-- ask for it
abbrev pub named_row : Mode → Kind → List ℕ → Option Content → Option Content → List ℕ
named_row Differ kind name one other = if have_same one other then [] else differing_row kind name one other
named_row Common kind name None other = []
named_row Common kind name (Some one) other = if have_same (Some one) other then common_row kind name (Some one) else []
named_row Neither kind name None None = neither_row name
named_row Neither kind name None (Some other) = []
named_row Neither kind name (Some one) other = []

-- the rows of the user-defined names of a kind; an entry in which the name is of another kind has
-- nothing of it
abbrev pub user_rows : Mode → Kind → Extended → Extended → List ℕ
user_rows mode kind one other =
    flat_map (λ (name : List ℕ). named_row mode kind name (of_kind kind (said one.rows name)) (of_kind kind (said other.rows name)))
    (names_among kind one (other ∷ []))

-- the heading of a kind, the rows of the tables and those of user-defined names
abbrev pub compared_kind : Extended → Extended → Mode → Order → Kind → List ℕ
compared_kind one other mode order kind =
    kind_heading kind ++ rows mode one.entry.contents other.entry.contents (in_order order kind) ++ user_rows mode kind one other

-- the comparison of two entries
abbrev pub extended_comparison : Extended → Extended → Mode → Order → List ℕ
extended_comparison one other mode order =
    codes "comparing " ++ first_name one.entry.names ++ codes " to " ++ first_name other.entry.names ++ codes ".\n"
    ++ compared_kind one other mode order Flag ++ compared_kind one other mode order Number ++ compared_kind one other mode order Text
