-- The values that are sent (LSP 3.17).
use Rattle.std.specs.Prelude.{ℕ, List, [], None, codes, if◌then◌else◌}
use Rattle.std.specs.List.{flat_map}
use Rattle.serde_json.specs.Data.{Data, array, no_items, null}
use Rattle.serde_json.specs.View.{items_of}
use Rattle.lsp_values.specs.Shapes.{initialized_data, unreadable_data, publish_data, refusal_data, reply_data, response_data}
use Rattle.lsp_server.specs.Sayings.{Sayings}
use Rattle.lsp_server.specs.Steps.{Answer, Open, ready, done, refused, answered, searched, shown, cleared, warned}

-- the version of the server
abbrev pub server_version : List ℕ
server_version = codes "1.1.0"

-- the symbols of a document whose names hold a text; none if it is out of date
abbrev pub found_in : Sayings → List ℕ → Open → List Data
found_in says held document = if document.current then says.symbols document.text document.uri held else []

-- the same of documents, in their order
abbrev pub found_among : Sayings → List ℕ → List Open → List Data
found_among says held documents = flat_map (found_in says held) documents

-- the message that an answer is, if `says` gives what is reported about each document
abbrev pub answer_data : Sayings → Answer → Data
answer_data says (ready id client) = response_data id (initialized_data client server_version)
answer_data says (done id) = response_data id null
answer_data says (refused id failure) = refusal_data id failure
answer_data says (answered id client document query) = reply_data id (says.answers client document.text document.uri query)
answer_data says (searched id documents held) = response_data id (array (items_of (found_among says held documents)))
answer_data says (shown document) = publish_data document.uri document.version (says.diagnostics document.client document.text)
answer_data says (cleared uri) = publish_data uri None no_items
answer_data says (warned uri) = unreadable_data uri
