-- What is printed of entries without their user-defined capabilities (infocmp(1)).
use Rattle.std.specs.Prelude.{ℕ, List, ◌∷◌}
use Rattle.std.specs.List.{flat_map}
use Rattle.ti_layout.specs.View.{Entry}
use Rattle.ti_list.specs.Comparison.{comparison}
use Rattle.ti_list.specs.Listing.{listing}
use Rattle.ti_list.specs.RelativeSource.{relative}
use Rattle.ti_list.specs.declared.layout.Layout.{Layout}
use Rattle.ti_list.specs.declared.layout.Mode.TheVariants as rows
use Rattle.tools_commands.specs.declared.jobs.InfocmpMode.{InfocmpMode}
use Rattle.tools_commands.specs.declared.jobs.InfocmpMode.TheVariants as mode

-- the listing of each entry in turn
abbrev pub listings_text : Entry → List Entry → Layout → List ℕ
listings_text first others layout = flat_map (λ (entry : Entry). listing entry.names entry.contents layout) (first ∷ others)

-- what is printed in a mode of the first entry and of others
abbrev pub plain_text : InfocmpMode → Entry → List Entry → Layout → List ℕ
plain_text mode.List first others layout = listings_text first others layout
plain_text mode.Differ first others layout = flat_map (λ other. comparison first other rows.Differ layout.order) others
plain_text mode.Common first others layout = flat_map (λ other. comparison first other rows.Common layout.order) others
plain_text mode.Neither first others layout = flat_map (λ other. comparison first other rows.Neither layout.order) others
plain_text mode.Relative first others layout = relative first others layout
