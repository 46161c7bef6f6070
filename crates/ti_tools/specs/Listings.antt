-- What infocmp prints of entries (infocmp(1)).
use Rattle.std.specs.Prelude.{ℕ, List, [], ◌∷◌, Option, Some, None}
use Rattle.std.specs.List.{flat_map}
use Rattle.ti_list.specs.declared.layout.Layout.{Layout}
use Rattle.ti_list.specs.declared.layout.Mode.TheVariants as rows
use Rattle.ti_list.specs.Comparison.{comparison}
use Rattle.ti_list.specs.Listing.{listing}
use Rattle.ti_layout.specs.View.{Entry}
use Rattle.ti_list.specs.RelativeSource.{relative}
use Rattle.tools_commands.specs.declared.jobs.InfocmpMode.{InfocmpMode}
use Rattle.tools_commands.specs.declared.jobs.InfocmpMode.TheVariants as mode
use Rattle.ti_tools.specs.declared.listings.InfocmpOptions.{InfocmpOptions}

-- the listing of each entry in turn
abbrev pub listings_text : List Entry → Layout → List ℕ
listings_text entries layout = flat_map (λ (entry : Entry). listing entry.names entry.contents layout) entries

-- what is printed of the first entry and of others, of which there is one at least
abbrev pub printed_listing : InfocmpMode → Entry → List Entry → Layout → List ℕ
printed_listing mode.List first others layout = listings_text (first ∷ others) layout
printed_listing mode.Differ first others layout = flat_map (λ other. comparison first other rows.Differ layout.order) others
printed_listing mode.Common first others layout = flat_map (λ other. comparison first other rows.Common layout.order) others
printed_listing mode.Neither first others layout = flat_map (λ other. comparison first other rows.Neither layout.order) others
printed_listing mode.Relative first others layout = relative first others layout

-- what is printed of one entry or none: their listings, and in another mode nothing, since it takes
-- two
abbrev pub text_alone : InfocmpMode → List Entry → Layout → Option (List ℕ)
text_alone mode.List entries layout = Some (listings_text entries layout)
text_alone _ entries layout = None

-- what infocmp prints; none if a mode other than listing has fewer than two entries
abbrev pub infocmp_result : List Entry → InfocmpOptions → Option (List ℕ)
infocmp_result [] options = text_alone options.mode [] options.layout
infocmp_result (first ∷ []) options = text_alone options.mode (first ∷ []) options.layout
infocmp_result (first ∷ other ∷ others) options = Some (printed_listing options.mode first (other ∷ others) options.layout)
