-- How the items of a kind go on when some of them are written already, and what follows them (own).
use Rattle.std.specs.Prelude.{ℕ, ◌+◌, ◌||◌, nat_lt, if◌then◌else◌, List, [], ◌∷◌, ◌++◌, Option, Some, None}
use Rattle.ti_text.specs.Ascii as ascii
use Rattle.ti_source.specs.Reading.{Said, said_import}
use Rattle.ti_layout.specs.View.{Entry}
use Rattle.ti_list.specs.declared.layout.Layout.{Layout}
use Rattle.ti_list.specs.Items.{item_text}
use Rattle.ti_list.specs.Listing.{size_of}
use Rattle.ti_list.specs.RelativeSource.{first_name}

-- further items and then the rest, when this number of columns of the line is taken
abbrev pub further_before : Layout → ℕ → List Said → List ℕ → List ℕ
further_before layout column [] rest = rest
further_before layout column (item ∷ items) rest =
    if layout.one_per_line || nat_lt layout.width (column + 1 + size_of item)
    then ascii.newline ∷ ascii.tab ∷ item_text item ++ ascii.comma ∷ further_before layout (8 + size_of item) items rest
    else ascii.space ∷ item_text item ++ ascii.comma ∷ further_before layout (column + 1 + size_of item) items rest

-- the items of a kind and then the rest
abbrev pub lines_before : Layout → List Said → List ℕ → List ℕ
lines_before layout [] rest = rest
lines_before layout (item ∷ items) rest = ascii.newline ∷ ascii.tab ∷ item_text item ++ ascii.comma ∷ further_before layout (8 + size_of item) items rest

-- the uses and then the rest
abbrev pub uses_before : List Entry → List ℕ → List ℕ
uses_before [] rest = rest
uses_before (other ∷ others) rest = ascii.newline ∷ ascii.tab ∷ item_text (said_import (first_name other.names)) ++ ascii.comma ∷ uses_before others rest

-- the items and then the rest, when this number of columns of the line is taken, or no line has
-- begun
abbrev pub flow : Layout → Option ℕ → List Said → List ℕ → List ℕ
flow layout None items rest = lines_before layout items rest
flow layout (Some column) items rest = further_before layout column items rest
