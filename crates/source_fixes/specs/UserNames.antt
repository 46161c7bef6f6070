-- What is offered in place of a user-defined name that is not known (own; N8): the nearest of those
-- that are.
use Rattle.std.specs.Prelude.{ℕ, List, [], map, if◌then◌else◌}
use Rattle.ti_source.specs.Folding.{PlacedByte}
use Rattle.ti_source.specs.Items.{bytes}
use Rattle.source_descriptions.specs.UserDescriptions.{UserDescribed, user_descriptions}
use Rattle.source_diagnostics.specs.declared.capabilities.Capabilities.{Capabilities}
use Rattle.source_diagnostics.specs.declared.capabilities.Capabilities.TheVariants.{Profile, UserDefined}
use Rattle.source_hints.specs.Unknown.{is_unknown_name}
use Rattle.source_edits.specs.Edits.{EditSeen, renames}
use Rattle.source_edits.specs.Pieces.{written_name}

-- the names of the user-defined capabilities that are known
abbrev pub user_names : List (List ℕ)
user_names = map (λ (said : UserDescribed). said.name) user_descriptions

-- the nearest of them in place of the name of an item, if that is user-defined and not known
abbrev pub user_renames : List PlacedByte → List EditSeen
user_renames item = if is_unknown_name (bytes (written_name item)) then renames (written_name item) user_names else []

-- the same in a source with these capabilities
abbrev pub user_renames_by : Capabilities → List PlacedByte → List EditSeen
user_renames_by Profile item = []
user_renames_by UserDefined item = user_renames item
