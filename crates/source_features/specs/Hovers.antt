-- What an editor shows about a position (own; Language Server Protocol 3.17, "Hover Request").
use Rattle.std.specs.Prelude.{ℕ, Bool, false, List, map, Option, None, Some, if◌then◌else◌, option_and_then, option_map}
use Rattle.std.specs.Option.{option_or}
use Rattle.std.specs.String.{string_bytes}
use Rattle.ti_caps.specs.Tables.{Capability, capability_named}
use Rattle.user_items.specs.Names.{is_user_defined_name}
use Rattle.base_meaning.specs.Report.{shown_detail}
use Rattle.source_spans.specs.Subjects.{TouchedSeen, subject_at}
use Rattle.source_spans.specs.Touching.{ItemSeen, item_at}
use Rattle.source_types.specs.declared.places.Position.{Position}
use Rattle.source_types.specs.declared.places.Range.{Range}
use Rattle.source_document.specs.Diagnostics.{text_at}
use Rattle.source_document.specs.Documents.{held}
use Rattle.source_diagnostics.specs.declared.capabilities.Capabilities.{Capabilities}
use Rattle.source_diagnostics.specs.declared.capabilities.Capabilities.TheVariants.{Profile, UserDefined}
use Rattle.source_blocks.specs.Deciding.{SourceSeen, source_seen, sources_named}
use Rattle.source_blocks.specs.Holdings.{EntrySeen, entry_named, entry_seen}
use Rattle.source_blocks.specs.Spots.{range_in, spot_at}
use Rattle.source_blocks.specs.declared.spots.Spot.{Spot}
use Rattle.source_features.specs.Meanings.{MeaningSeen, meaning_at, meaning_seen}
use Rattle.source_names.specs.Names.{name_of}
use Rattle.source_features.specs.UserMeanings.{user_meaning_at}
use Rattle.source_features.specs.declared.hovers.About.{About}
use Rattle.source_features.specs.declared.hovers.About.TheVariants as about
use Rattle.source_features.specs.declared.hovers.Hover.{Hover}

-- what a place is on, as plain data: an item of a capability, with its text and what it means; one
-- of a user-defined name likewise; or a name, with what its owner's entry holds or why there is
-- none, and the blocks that decide what it inherits
pub data AboutSeen : Type 0 where
  about_item : Capability → List ℕ → MeaningSeen → AboutSeen
  about_user : List ℕ → List ℕ → MeaningSeen → AboutSeen
  about_name : List ℕ → EntrySeen → List SourceSeen → AboutSeen

-- what is shown about a part of a source, as plain data
pub record HoverSeen : Type 0 where
  pub range : Range
  pub about : AboutSeen

-- what holds its texts in memory, as plain data
abbrev pub about_seen : About → AboutSeen
about_seen (about.Item capability text meaning) = about_item capability (string_bytes text) (meaning_seen meaning)
about_seen (about.UserItem name text meaning) = about_user (string_bytes name) (string_bytes text) (meaning_seen meaning)
about_seen (about.Name name entry sources) = about_name (string_bytes name) (entry_seen entry) (map source_seen sources.items)

-- what is shown, if its texts are in memory, as plain data
abbrev pub hover_seen : Hover → HoverSeen
hover_seen hover = record { range = hover.range; about = about_seen hover.about }

-- what is shown about a name in a block of a text that begins on that line
abbrev pub name_told : List ℕ → ℕ → List ℕ → TouchedSeen → HoverSeen
name_told text line block touched = record {
  range = range_in line block touched.span;
  about = about_name (shown_detail (name_of touched.subject)) (entry_named text (name_of touched.subject))
      (sources_named (held text) (name_of touched.subject));
}

-- what is shown about an item of a capability, which that offset is on
abbrev pub capability_told : ℕ → List ℕ → ℕ → ItemSeen → Capability → HoverSeen
capability_told line block offset item c = record {
  range = range_in line block item.span;
  about = about_item c (shown_detail item.text) (meaning_at block offset);
}

-- whether a name is user-defined in a source that may have these capabilities
abbrev pub is_user_defined_in : Capabilities → List ℕ → Bool
is_user_defined_in Profile name = false
is_user_defined_in UserDefined name = is_user_defined_name name

-- what is shown about an item of a user-defined name, which that offset is on
abbrev pub user_told : ℕ → List ℕ → ℕ → ItemSeen → HoverSeen
user_told line block offset item = record {
  range = range_in line block item.span;
  about = about_user (shown_detail item.name) (shown_detail item.text) (user_meaning_at block offset);
}

-- the same, if its name is user-defined
abbrev pub user_told_by : Capabilities → ℕ → List ℕ → ℕ → ItemSeen → Option HoverSeen
user_told_by capabilities line block offset item =
    if is_user_defined_in capabilities item.name then Some (user_told line block offset item) else None

-- what is shown about an item, which that offset is on, if a capability has its name or it is
-- user-defined
abbrev pub item_told : Capabilities → ℕ → List ℕ → ℕ → ItemSeen → Option HoverSeen
item_told capabilities line block offset item =
    option_or (option_map (capability_told line block offset item) (capability_named item.name)) (user_told_by capabilities line block offset item)

-- what is shown at an offset of a block of a text that begins on that line
abbrev pub told_at : Capabilities → List ℕ → ℕ → List ℕ → ℕ → Option HoverSeen
told_at capabilities text line block offset =
    option_or (option_map (name_told text line block) (subject_at block offset))
    (option_and_then (item_told capabilities line block offset) (item_at block offset))

-- what is shown at a place in a block of a text
abbrev pub told_in : Capabilities → List ℕ → Spot → Option HoverSeen
told_in capabilities text spot = told_at capabilities text spot.line (text_at (held text) spot.at) spot.offset

-- what is shown at a place of a text, which may have these capabilities
abbrev pub hover_of : Capabilities → List ℕ → Position → Option HoverSeen
hover_of capabilities text place = option_and_then (told_in capabilities text) (spot_at text place)
