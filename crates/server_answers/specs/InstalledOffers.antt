-- The names of installed entries as a completion offers them (own; LSP 3.17, "Completion Request").
use Rattle.std.specs.Prelude.{ℕ, ◌&&◌, Bool, not, List, [], ◌∷◌, codes, drop, if◌then◌else◌, is_some, min, take}
use Rattle.std.specs.List.{flat_map}
use Rattle.serde_json.specs.Data.{Data}
use Rattle.base_meaning.specs.Owner.{owner, readings}
use Rattle.source_diagnostics.specs.declared.capabilities.Capabilities.{Capabilities}
use Rattle.source_diagnostics.specs.declared.capabilities.Capabilities.TheVariants.{Profile, UserDefined}
use Rattle.source_document.specs.Documents.{held}
use Rattle.source_places.specs.Position.{offset_of}
use Rattle.source_types.specs.declared.items.ItemKind.TheVariants as items
use Rattle.source_types.specs.declared.places.Range.{Range}
use Rattle.lsp_values.specs.Shapes.{later_item_data}
use Rattle.server_answers.specs.Searching.{begins_alike}

-- the part of a text in a range
abbrev pub typed_in : List ℕ → Range → List ℕ
typed_in text range = drop (min (offset_of text range.start) (offset_of text range.end)) (take (offset_of text range.end) text)

-- whether an installed name is offered for what is typed: it begins so, and no block has it
abbrev pub is_offered : List (List ℕ) → List ℕ → List ℕ → Bool
is_offered blocks typed name = begins_alike typed name && not (is_some (owner (readings blocks) name))

-- the item of an installed name, put in place of a range: it comes after those of the blocks
abbrev pub installed_item : Range → List ℕ → Data
installed_item range name =
    later_item_data items.Entry name (codes "installed entry")
    (codes "An entry that is installed. `ti-tic` takes it if no block of the file has the name.") range

-- the item of an installed name, if it is offered for what is typed
abbrev pub if_offered : List (List ℕ) → List ℕ → Range → List ℕ → List Data
if_offered blocks typed range name = if is_offered blocks typed name then installed_item range name ∷ [] else []

-- the items of the installed names that are offered in place of a range of a text, which may have
-- these capabilities: in the profile no use is of an installed entry
abbrev pub installed_items : Capabilities → List (List ℕ) → List ℕ → Range → List Data
installed_items Profile installed text range = []
installed_items UserDefined installed text range = flat_map (if_offered (held text) (typed_in text range) range) installed
