-- How the items of a kind go on when a line has begun, or none has (own).
use Rattle.std.specs.Prelude.{ℕ, List, Option, Some, None}
use Rattle.ti_list.specs.declared.layout.Layout.{Layout}
use Rattle.user_listing.specs.Items.{further_lines, kind_lines}

-- the items when this number of columns of the line is taken, or no line has begun
abbrev pub flow : Layout → Option ℕ → List (List ℕ) → List ℕ
flow layout None items = kind_lines layout items
flow layout (Some column) items = further_lines layout column items
