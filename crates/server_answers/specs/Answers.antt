-- The answers to questions about a terminfo source, as values of the protocol (LSP 3.17).
use Rattle.std.specs.Prelude.{ℕ, List, [], ◌++◌, Bool, false, true, Option, None, Some, codes, map}
use Rattle.serde_json.specs.Data.{Data, array, null}
use Rattle.serde_json.specs.View.{items_of}
use Rattle.lsp_messages.specs.Messages.{Query, completion, hover, signature, definition, references, symbols, highlights, folding, formatting, range_formatting, rename, prepare_rename, fixes}
use Rattle.lsp_values.specs.Shapes.{Said, said_answer, said_refusal, highlight_data, item_data, list_data, location_data, range_data, symbol_data, symbol_information_data}
use Rattle.lsp_values.specs.Shapes.{text_edit_data, workspace_edit_data}
use Rattle.lsp_messages.specs.declared.clients.Client.{Client}
use Rattle.source_types.specs.declared.items.ItemKind.TheVariants as items
use Rattle.source_types.specs.declared.places.Range.{Range}
use Rattle.source_diagnostics.specs.declared.capabilities.Capabilities.{Capabilities}
use Rattle.source_blocks.specs.Symbols.{SymbolSeen, symbols_of}
use Rattle.source_features.specs.Completions.{CompletionSeen, OffersSeen, completion_of, offers_capabilities, offers_names}
use Rattle.source_features.specs.Formatting.{layout_of}
use Rattle.source_features.specs.RangeFormatting.{layout_in}
use Rattle.source_features.specs.Signatures.{signature_of}
use Rattle.source_format.specs.Folds.{folds_of}
use Rattle.server_answers.specs.Fixes.{fixes_data}
use Rattle.source_names.specs.Names.{definition_of, references_of}
use Rattle.source_names.specs.Renaming.{RenameSeen, RenamingSeen, refuses, renamable_at, renames, renames_nothing, renaming_of}
use Rattle.lsp_server.specs.Sayings.{Sayings}
use Rattle.server_hovers.specs.Hovers.{hover_at}
use Rattle.server_answers.specs.InstalledOffers.{installed_items}
use Rattle.server_answers.specs.Signatures.{signature_shown}
use Rattle.server_answers.specs.Laying.{folds_data, layout_data}
use Rattle.server_answers.specs.Offers.{capability_items}
use Rattle.server_answers.specs.Searching.{searched}
use Rattle.server_answers.specs.Shown.{capabilities_of, shown_of}

-- a block in the outline, for a client that takes symbols as a hierarchy ("DocumentSymbol") or not
-- ("SymbolInformation")
abbrev pub symbol_shown : Bool → List ℕ → SymbolSeen → Data
symbol_shown true uri symbol = symbol_data symbol.name symbol.range symbol.selection
symbol_shown false uri symbol = symbol_information_data uri symbol.name symbol.range

-- the outline of a source
abbrev pub outline_data : Bool → List ℕ → List SymbolSeen → Data
outline_data nests uri all = array (items_of (map (symbol_shown nests uri) all))

-- where a name is defined ("Location"), or null if nowhere
abbrev pub definition_data : List ℕ → Option Range → Data
definition_data uri None = null
definition_data uri (Some range) = location_data uri range

-- where names are used
abbrev pub references_data : List ℕ → List Range → Data
references_data uri ranges = array (items_of (map (location_data uri) ranges))

-- where a name is used, and where what it is of is defined ("DocumentHighlight")
abbrev pub highlights_data : List Range → Data
highlights_data ranges = array (items_of (map highlight_data ranges))

-- the item of the name of an entry, put in place of a range
abbrev pub entry_item : Range → List ℕ → Data
entry_item range name = item_data items.Entry name (codes "entry") None range

-- the items of what is offered in a text that may have these capabilities, where these names are
-- installed, each put in place of a range
abbrev pub offered_items : Capabilities → List (List ℕ) → List ℕ → Range → OffersSeen → List Data
offered_items capabilities installed text range offers_capabilities = capability_items capabilities range
offered_items capabilities installed text range (offers_names names) =
    map (entry_item range) names ++ installed_items capabilities installed text range

-- what completes a word; no items where no word is completed
abbrev pub completion_data : Capabilities → List (List ℕ) → List ℕ → Option CompletionSeen → Data
completion_data capabilities installed text None = list_data (items_of [])
completion_data capabilities installed text (Some found) =
    list_data (items_of (offered_items capabilities installed text found.range found.offers))

-- an edit of a rename
abbrev pub edit_data : RenameSeen → Data
edit_data edit = text_edit_data edit.text edit.range

-- the edits of a rename
abbrev pub edits_data : List ℕ → List RenameSeen → Data
edits_data uri edits = workspace_edit_data uri (items_of (map edit_data edits))

-- what comes of a rename ("WorkspaceEdit"): null if nothing is renamed
abbrev pub renamed_said : List ℕ → RenamingSeen → Said
renamed_said uri renames_nothing = said_answer null
renamed_said uri (refuses failure) = said_refusal failure
renamed_said uri (renames edits) = said_answer (edits_data uri edits)

-- the name that a rename is of, or null
abbrev pub renamable_data : Option Range → Data
renamable_data None = null
renamable_data (Some range) = range_data range

-- what comes of a question of a client about a text, under the URI of its document, where these names
-- are installed
abbrev pub answer_of : List (List ℕ) → Client → List ℕ → List ℕ → Query → Said
answer_of installed client text uri (completion place) = said_answer (completion_data (capabilities_of client) installed text (completion_of text place))
answer_of installed client text uri (hover place) = said_answer (hover_at (capabilities_of client) installed text place)
answer_of installed client text uri (signature place) = said_answer (signature_shown (signature_of text place))
answer_of installed client text uri (definition place) = said_answer (definition_data uri (definition_of text place))
answer_of installed client text uri (references place with_declaration) = said_answer (references_data uri (references_of text place with_declaration))
answer_of installed client text uri symbols = said_answer (outline_data client.nests_symbols uri (symbols_of text))
answer_of installed client text uri (highlights place) = said_answer (highlights_data (references_of text place true))
answer_of installed client text uri folding = said_answer (folds_data (folds_of text))
answer_of installed client text uri formatting = said_answer (layout_data (layout_of text))
answer_of installed client text uri (range_formatting range) = said_answer (layout_data (layout_in text range))
answer_of installed client text uri (rename place name) = renamed_said uri (renaming_of text place name)
answer_of installed client text uri (prepare_rename place) = said_answer (renamable_data (renamable_at text place))
answer_of installed client text uri (fixes range wanted) = said_answer (fixes_data (capabilities_of client) client.hints installed text uri range wanted)

-- what is said where these names are installed
abbrev pub sayings : List (List ℕ) → Sayings
sayings installed = record { diagnostics = shown_of installed; answers = answer_of installed; symbols = searched }
