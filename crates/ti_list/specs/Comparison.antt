-- Two entries compared capability by capability (infocmp(1), `-d`, `-c` and `-n`).
use Rattle.std.specs.Prelude.{ℕ, Bool, true, false, if◌then◌else◌, List, [], ◌∷◌, ◌++◌, Option, Some, None, codes}
use Rattle.std.specs.Fmt.{decimal}
use Rattle.std.specs.List.{flat_map}
use Rattle.ti_text.specs.Ascii as ascii
use Rattle.ti_caps.specs.Tables.{Capability, name_of}
use Rattle.ti_caps.specs.declared.capability.Kind.{Kind}
use Rattle.ti_caps.specs.declared.capability.Kind.TheVariants.{Flag, Number, Text}
use Rattle.ti_spelling.specs.Spelling.{spelling_of}
use Rattle.ti_layout.specs.Values.{Content, content_true, content_number, content_text, content_cancelled, Contents}
use Rattle.ti_list.specs.declared.layout.Order.{Order}
use Rattle.ti_list.specs.declared.layout.Mode.{Mode}
use Rattle.ti_list.specs.declared.layout.Mode.TheVariants.{Differ, Common, Neither}
use Rattle.ti_list.specs.Listing.{in_order}
use Rattle.ti_layout.specs.View.{Entry}
use Rattle.ti_list.specs.RelativeSource.{first_name, same_content}

-- what is shown for a capability that an entry does not have
abbrev pub absent_text : Kind → List ℕ
absent_text Flag = codes "F"
absent_text Number = codes "NULL"
absent_text Text = codes "NULL"

-- what an entry has of a capability of the kind, as it is shown: `T` or `F`, a number in decimal,
-- or a string as it is written in source, in quotes
abbrev pub value_text : Kind → Option Content → List ℕ
value_text kind None = absent_text kind
value_text kind (Some content_true) = codes "T"
value_text kind (Some (content_number n)) = decimal n
value_text kind (Some (content_text t)) = ascii.apostrophe ∷ spelling_of t ++ ascii.apostrophe ∷ []
value_text kind (Some content_cancelled) = absent_text kind

-- what separates the two values of a row
abbrev pub value_separator : Kind → List ℕ
value_separator Flag = codes ":"
value_separator Number = codes ", "
value_separator Text = codes ", "

-- whether both entries have the same value, or neither has any
abbrev pub have_same : Option Content → Option Content → Bool
have_same None None = true
have_same (Some one) (Some other) = same_content one other
have_same _ _ = false

-- the row of a capability whose values differ
abbrev pub differing_row : Capability → Option Content → Option Content → List ℕ
differing_row c one other = ascii.tab ∷ name_of c ++ codes ": " ++ value_text c.kind one ++ value_separator c.kind ++ value_text c.kind other ++ codes ".\n"

-- the row of a capability whose values are equal
abbrev pub common_row : Capability → Option Content → List ℕ
common_row c one = ascii.tab ∷ name_of c ++ codes "= " ++ value_text c.kind one ++ codes ".\n"

-- the row of a capability that neither entry has
abbrev pub neither_row : Capability → List ℕ
neither_row c = codes "\t!" ++ name_of c ++ codes ".\n"

-- the row of a capability, given what the two entries have of it; nothing if the mode does not ask
-- for it
abbrev pub row : Mode → Capability → Option Content → Option Content → List ℕ
row Differ c one other = if have_same one other then [] else differing_row c one other
row Common c None other = []
row Common c (Some one) other = if have_same (Some one) other then common_row c (Some one) else []
row Neither c None None = neither_row c
row Neither c None (Some other) = []
row Neither c (Some one) other = []

-- the rows of some capabilities, in order
abbrev pub rows : Mode → Contents → Contents → List Capability → List ℕ
rows mode one other caps = flat_map (λ c. row mode c (one c) (other c)) caps

-- the heading of a kind
abbrev pub kind_heading : Kind → List ℕ
kind_heading Flag = codes "    comparing booleans.\n"
kind_heading Number = codes "    comparing numbers.\n"
kind_heading Text = codes "    comparing strings.\n"

-- the heading of a kind and its rows
abbrev pub compared_kind : Entry → Entry → Mode → Order → Kind → List ℕ
compared_kind one other mode order kind = kind_heading kind ++ rows mode one.contents other.contents (in_order order kind)

-- the comparison of two entries
abbrev pub comparison : Entry → Entry → Mode → Order → List ℕ
comparison one other mode order =
    codes "comparing " ++ first_name one.names ++ codes " to " ++ first_name other.names ++ codes ".\n"
    ++ compared_kind one other mode order Flag ++ compared_kind one other mode order Number ++ compared_kind one other mode order Text
