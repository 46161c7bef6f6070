-- What is printed of entries with their user-defined capabilities (infocmp(1) at `-x`).
use Rattle.std.specs.Prelude.{ℕ, List, ◌∷◌}
use Rattle.std.specs.List.{flat_map}
use Rattle.ti_list.specs.declared.layout.Layout.{Layout}
use Rattle.ti_list.specs.declared.layout.Mode.TheVariants as rows
use Rattle.tools_commands.specs.declared.jobs.InfocmpMode.{InfocmpMode}
use Rattle.tools_commands.specs.declared.jobs.InfocmpMode.TheVariants as mode
use Rattle.user_listing.specs.Comparison.{extended_comparison}
use Rattle.user_listing.specs.Entries.{Extended}
use Rattle.user_listing.specs.Listing.{extended_listing}
use Rattle.user_listing.specs.RelativeSource.{extended_relative}

-- the listing of each entry in turn
abbrev pub listings_text : Extended → List Extended → Layout → List ℕ
listings_text first others layout = flat_map (λ (e : Extended). extended_listing e layout) (first ∷ others)

-- what is printed in a mode of the first entry and of others
abbrev pub extended_text : InfocmpMode → Extended → List Extended → Layout → List ℕ
extended_text mode.List first others layout = listings_text first others layout
extended_text mode.Differ first others layout = flat_map (λ other. extended_comparison first other rows.Differ layout.order) others
extended_text mode.Common first others layout = flat_map (λ other. extended_comparison first other rows.Common layout.order) others
extended_text mode.Neither first others layout = flat_map (λ other. extended_comparison first other rows.Neither layout.order) others
extended_text mode.Relative first others layout = extended_relative first others layout
