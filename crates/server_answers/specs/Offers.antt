-- The capabilities as a completion offers them (own; LSP 3.17, "Completion Request").
use Rattle.std.specs.Prelude.{ℕ, ◌==◌, ◌&&◌, ◌++◌, Bool, List, [], Some, codes, false, map, slice_get, true, unwrap_or}
use Rattle.serde_json.specs.Data.{Data}
use Rattle.ti_caps.specs.NameOrder.{in_name_order}
use Rattle.ti_caps.specs.Tables.{Capability, name_of}
use Rattle.ti_caps.specs.declared.capability.Kind.TheVariants.{Flag, Number, Text}
use Rattle.lsp_values.specs.Shapes.{item_data, later_item_data, obsolete_item_data}
use Rattle.source_types.specs.declared.items.ItemKind.TheVariants as items
use Rattle.source_types.specs.declared.places.Range.{Range}
use Rattle.source_diagnostics.specs.declared.capabilities.Capabilities.{Capabilities}
use Rattle.source_diagnostics.specs.declared.capabilities.Capabilities.TheVariants.{Profile, UserDefined}
use Rattle.source_descriptions.specs.UserDescriptions.{UserDescribed, user_descriptions}
use Rattle.source_descriptions.specs.Words.{detail_of, documentation_of}

-- the byte of a name at that place, or 0 after the end
abbrev pub byte_at : List ℕ → ℕ → ℕ
byte_at name at = unwrap_or (slice_get name at) 0

-- a name is one of termcap's that ncurses calls obsolete: these begin with `OT`
abbrev pub is_obsolete : List ℕ → Bool
is_obsolete name = byte_at name 0 == 79 && byte_at name 1 == 84

-- the item of a capability, whose name may be obsolete, put in place of a range
abbrev pub described_item : Bool → Range → Capability → Data
described_item false range c = item_data items.Capability (name_of c) (detail_of c) (Some (documentation_of c)) range
described_item true range c = obsolete_item_data items.Capability (name_of c) (detail_of c) (documentation_of c) range

-- the item of a capability, put in place of a range
abbrev pub capability_item : Range → Capability → Data
capability_item range c = described_item (is_obsolete (name_of c)) range c

-- all capabilities: the booleans, the numbers and the strings, each by the bytes of their names
unfoldable pub all_capabilities : List Capability
all_capabilities = in_name_order Flag ++ in_name_order Number ++ in_name_order Text

-- what is said of a user-defined capability besides its name and its sentence
abbrev pub user_detail : UserDescribed → List ℕ
user_detail said = codes "user-defined, " ++ said.kinds

-- the item of a user-defined capability, put in place of a range: it comes after those of the
-- others, but for obsolete ones
abbrev pub user_item : Range → UserDescribed → Data
user_item range said = later_item_data items.Capability said.name (user_detail said) said.documentation range

-- the items of the user-defined capabilities that are known, if a source may have such
abbrev pub user_items : Capabilities → Range → List Data
user_items Profile range = []
user_items UserDefined range = map (user_item range) user_descriptions

-- the items of the capabilities that a source may have, put in place of a range
abbrev pub capability_items : Capabilities → Range → List Data
capability_items capabilities range = map (capability_item range) all_capabilities ++ user_items capabilities range
