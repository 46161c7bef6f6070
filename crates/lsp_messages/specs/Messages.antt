-- What a client asks for or reports (LSP 3.17; the section is named at each).
use Rattle.std.specs.Prelude.{ℕ, ◌^◌, ◌||◌, List, [], ◌∷◌, Bool, true, false, not, Option, None, Some, codes, is_some, option_and_then, option_map}
use Rattle.std.specs.Prelude.{unwrap_or, nat_lt, if◌then◌else◌}
use Rattle.std.specs.Option.{option_map_or}
use Rattle.std.specs.Str.{bytes_eq}
use Rattle.serde_json.specs.Data.{Num, Data, null, boolean, number, unsigned, negative, float, string, array, object, Items, no_items, item}
use Rattle.serde_json.specs.Find.{as_array, as_bool, as_null, as_number, as_str, get, is_float}
use Rattle.lsp_messages.specs.declared.asking.Topic.{Topic}
use Rattle.lsp_messages.specs.declared.asking.Topic.TheVariants as asks
use Rattle.lsp_messages.specs.declared.clients.Client.{Client}
use Rattle.source_types.specs.declared.places.Position.{Position}
use Rattle.source_types.specs.declared.places.Range.{Range}

-- "TextDocumentContentChangeEvent": a new text of a range, or of the whole document
pub record Edit : Type 0 where
  pub range : Option Range
  pub text : List ℕ

-- what is asked about a document: of references whether the definition is asked for too, of a
-- rename the new name, of fixes whether those of the kind "quickfix" are asked for
pub data Query : Type 0 where
  completion : Position → Query
  hover : Position → Query
  signature : Position → Query
  definition : Position → Query
  references : Position → Bool → Query
  symbols : Query
  highlights : Position → Query
  folding : Query
  formatting : Query
  range_formatting : Range → Query
  rename : Position → List ℕ → Query
  prepare_rename : Position → Query
  fixes : Range → Bool → Query

-- a request: to begin, and for which client; of a document its URI and what is asked about it; of a
-- search in all open documents the text that names hold; `unreadable` are those whose parameters are not those of the method
pub data Asked : Type 0 where
  initialize : Client → Asked
  shutdown : Asked
  about : List ℕ → Query → Asked
  search : List ℕ → Asked
  unreadable : Asked
  unknown : Asked

-- a notification: of a document its URI, its version if it is known, and its text or the edits;
-- `unreadable` are those of a document whose parameters are not those of the method, with its URI if
-- that can be read; `nothing` are those that ask for nothing: `initialized` and unknown ones
pub data Told : Type 0 where
  exited : Told
  opened : List ℕ → Option ℕ → List ℕ → Told
  changed : List ℕ → Option ℕ → List Edit → Told
  closed : List ℕ → Told
  unreadable : Option (List ℕ) → Told
  nothing : Told

-- what a value is as a message; a faulty one may have an id
pub data Meaning : Type 0 where
  request : Data → Asked → Meaning
  notification : Told → Meaning
  response : Meaning
  faulty : Option Data → Meaning

infixl 10 ◌>>=◌
abbrev pub ◌>>=◌ : {A B : Type 0} → Option A → (A → Option B) → Option B
o >>= f = option_and_then f o

-- ---- members

abbrev pub text_at : List ℕ → Data → Option (List ℕ)
text_at key d = option_and_then as_str (get key d)

-- a number that all clients can hold
abbrev pub small : Num → Option ℕ
small (unsigned n) = if nat_lt n (2 ^ 31) then Some n else None
small (negative z) = None
small (float x) = None

abbrev pub number_at : List ℕ → Data → Option ℕ
number_at key d = option_and_then small (option_and_then as_number (get key d))

-- ---- parameters

-- "Position"
abbrev pub position_of : Data → Option Position
position_of d = do
  line ← number_at (codes "line") d
  column ← number_at (codes "character") d
  Some (record { line = line; column = column })

-- "Range"
abbrev pub range_of : Data → Option Range
range_of d = do
  start ← option_and_then position_of (get (codes "start") d)
  end ← option_and_then position_of (get (codes "end") d)
  Some (record { start = start; end = end })

-- a range that may be left out; `null` is none (own)
abbrev pub optional_range : Option Data → Option (Option Range)
optional_range None = Some None
optional_range (Some d) = if is_some (as_null d) then Some None else option_map Some (range_of d)

-- "TextDocumentContentChangeEvent"; `rangeLength` is not read
abbrev pub edit_of : Data → Option Edit
edit_of d = do
  text ← text_at (codes "text") d
  range ← optional_range (get (codes "range") d)
  Some (record { range = range; text = text })

abbrev pub edits_of : Items → Option (List Edit)
edits_of no_items = Some []
edits_of (item d ds) = option_and_then (λ edit. option_map (λ edits. edit ∷ edits) (edits_of ds)) (edit_of d)

-- "VersionedTextDocumentIdentifier", "OptionalVersionedTextDocumentIdentifier": the version, if it
-- is known. That it is not where it is not a number that all clients can hold is own: `null`, none,
-- a negative one, one with a fraction
abbrev pub version_of : Data → Option ℕ
version_of document = number_at (codes "version") document

-- "DidOpenTextDocumentParams"; the language is not read
abbrev pub opened_of : Data → Option Told
opened_of params = do
  document ← get (codes "textDocument") params
  uri ← text_at (codes "uri") document
  text ← text_at (codes "text") document
  Some (opened uri (version_of document) text)

-- "DidChangeTextDocumentParams"
abbrev pub changed_of : Data → Option Told
changed_of params = do
  document ← get (codes "textDocument") params
  uri ← text_at (codes "uri") document
  items ← option_and_then as_array (get (codes "contentChanges") params)
  edits ← edits_of items
  Some (changed uri (version_of document) edits)

-- "DidCloseTextDocumentParams"
abbrev pub closed_of : Data → Option Told
closed_of params = do
  document ← get (codes "textDocument") params
  uri ← text_at (codes "uri") document
  Some (closed uri)

-- ---- questions about a document

-- the methods that ask about a document
abbrev pub topic_of : List ℕ → Option Topic
topic_of method =
    if bytes_eq method (codes "textDocument/completion") then Some asks.Completion
    else (if bytes_eq method (codes "textDocument/hover") then Some asks.Hover
    else (if bytes_eq method (codes "textDocument/signatureHelp") then Some asks.Signature
    else (if bytes_eq method (codes "textDocument/definition") then Some asks.Definition
    else (if bytes_eq method (codes "textDocument/references") then Some asks.References
    else (if bytes_eq method (codes "textDocument/documentSymbol") then Some asks.Symbols
    else (if bytes_eq method (codes "textDocument/documentHighlight") then Some asks.Highlights
    else (if bytes_eq method (codes "textDocument/foldingRange") then Some asks.Folding
    else (if bytes_eq method (codes "textDocument/formatting") then Some asks.Formatting
    else (if bytes_eq method (codes "textDocument/rangeFormatting") then Some asks.RangeFormatting
    else (if bytes_eq method (codes "textDocument/rename") then Some asks.Rename
    else (if bytes_eq method (codes "textDocument/prepareRename") then Some asks.PrepareRename
    else (if bytes_eq method (codes "textDocument/codeAction") then Some asks.Fixes else None))))))))))))

-- "TextDocumentPositionParams"
abbrev pub asked_place : Data → Option Position
asked_place params = option_and_then position_of (get (codes "position") params)

-- the part that parameters are about
abbrev pub asked_range : Data → Option Range
asked_range params = option_and_then range_of (get (codes "range") params)

-- "ReferenceParams"
abbrev pub references_of : Data → Option Query
references_of params = do
  place ← asked_place params
  context ← get (codes "context") params
  with_declaration ← option_and_then as_bool (get (codes "includeDeclaration") context)
  Some (references place with_declaration)

-- "RenameParams"
abbrev pub rename_of : Data → Option Query
rename_of params = do
  place ← asked_place params
  name ← text_at (codes "newName") params
  Some (rename place name)

-- "CodeActionKind": quick fixes are of their kind, and of the empty one of all actions
abbrev pub has_quick_fixes : Data → Bool
has_quick_fixes d = option_map_or (λ kind. bytes_eq kind (codes "quickfix") || bytes_eq kind []) (as_str d) false

-- one of these kinds has quick fixes in it
abbrev pub have_quick_fixes : Items → Bool
have_quick_fixes no_items = false
have_quick_fixes (item d ds) = has_quick_fixes d || have_quick_fixes ds

-- "CodeActionContext": whether quick fixes are asked for, given `only`, if it is there
abbrev pub wanted_by : Option Data → Option Bool
wanted_by None = Some true
wanted_by (Some d) = option_map have_quick_fixes (as_array d)

-- "CodeActionParams"; the diagnostics are not read
abbrev pub fixes_of : Data → Option Query
fixes_of params = do
  range ← asked_range params
  context ← get (codes "context") params
  wanted ← wanted_by (get (codes "only") context)
  Some (fixes range wanted)

-- "CompletionParams", "HoverParams", "DefinitionParams", "DocumentSymbolParams",
-- "DocumentHighlightParams", "FoldingRangeParams", "PrepareRenameParams", "CodeActionParams", and
-- "DocumentFormattingParams" and "DocumentRangeFormattingParams", whose options do not count
abbrev pub question_of : Topic → Data → Option Query
question_of asks.Completion params = option_map completion (asked_place params)
question_of asks.Hover params = option_map hover (asked_place params)
question_of asks.Signature params = option_map signature (asked_place params)
question_of asks.Definition params = option_map definition (asked_place params)
question_of asks.References params = references_of params
question_of asks.Symbols params = Some symbols
question_of asks.Highlights params = option_map highlights (asked_place params)
question_of asks.Folding params = Some folding
question_of asks.Formatting params = Some formatting
question_of asks.RangeFormatting params = option_map range_formatting (asked_range params)
question_of asks.Rename params = rename_of params
question_of asks.PrepareRename params = option_map prepare_rename (asked_place params)
question_of asks.Fixes params = fixes_of params

abbrev pub about_of : Topic → Data → Option Asked
about_of topic params = do
  document ← get (codes "textDocument") params
  uri ← text_at (codes "uri") document
  question ← question_of topic params
  Some (about uri question)

abbrev pub about_document : Topic → Data → Asked
about_document topic d = unwrap_or (option_and_then (about_of topic) (get (codes "params") d)) unreadable

-- "WorkspaceSymbolParams"
abbrev pub search_of : Data → Asked
search_of d = option_map_or search (option_and_then (text_at (codes "query")) (get (codes "params") d)) unreadable

-- ---- what a client can do

-- "RenameClientCapabilities": whether it asks which name a rename is of before it renames
abbrev pub prepares_renames : Data → Bool
prepares_renames abilities =
    unwrap_or (option_and_then as_bool (option_and_then (get (codes "prepareSupport")) (get (codes "rename") abilities))) false

-- "CodeActionClientCapabilities": whether it takes code actions, and not commands alone
abbrev pub takes_actions : Data → Bool
takes_actions abilities = is_some (option_and_then (get (codes "codeActionLiteralSupport")) (get (codes "codeAction") abilities))

-- "DocumentSymbolClientCapabilities": whether it takes symbols as a hierarchy, and not as a flat list
-- alone
abbrev pub nests_symbols : Data → Bool
nests_symbols abilities =
    unwrap_or (option_and_then as_bool
    (option_and_then (get (codes "hierarchicalDocumentSymbolSupport")) (get (codes "documentSymbol") abilities))) false

-- "TextDocumentClientCapabilities", if they are given
abbrev pub abilities_of : Data → Option Data
abilities_of d = do
  params ← get (codes "params") d
  capabilities ← get (codes "capabilities") params
  get (codes "textDocument") capabilities

-- ---- what a client wants (own; "InitializeParams", `initializationOptions`)

-- the settings among its options: the member `ti`, or else the options themselves
abbrev pub settings_in : Data → Data
settings_in options = unwrap_or (get (codes "ti") options) options

-- whether user-defined capabilities are no unknown ones: unless `userDefined` is `false`
abbrev pub user_defined_in : Data → Bool
user_defined_in options = unwrap_or (option_and_then as_bool (get (codes "userDefined") (settings_in options))) true

-- whether hints are wanted: unless `hints` is `false`
abbrev pub hints_in : Data → Bool
hints_in options = unwrap_or (option_and_then as_bool (get (codes "hints") (settings_in options))) true

-- its options, if it has any
abbrev pub options_of : Data → Option Data
options_of d = do
  params ← get (codes "params") d
  get (codes "initializationOptions") params

-- the same of a client, also of one without options
abbrev pub wants_user_defined : Data → Bool
wants_user_defined d = option_map_or user_defined_in (options_of d) true

abbrev pub wants_hints : Data → Bool
wants_hints d = option_map_or hints_in (options_of d) true

-- ---- both

-- a client that reports nothing can do none of it
abbrev pub client_with : Bool → Bool → Option Data → Client
client_with user_defined hints None = record {
  prepares_renames = false;
  takes_actions = false;
  nests_symbols = false;
  user_defined = user_defined;
  hints = hints;
}
client_with user_defined hints (Some abilities) = record {
  prepares_renames = prepares_renames abilities;
  takes_actions = takes_actions abilities;
  nests_symbols = nests_symbols abilities;
  user_defined = user_defined;
  hints = hints;
}

-- "InitializeParams": what the client can do, and what it wants
abbrev pub client_of : Data → Client
client_of d = client_with (wants_user_defined d) (wants_hints d) (abilities_of d)

-- ---- methods

abbrev pub asked_about : Option Topic → Data → Asked
asked_about None d = unknown
asked_about (Some topic) d = about_document topic d

abbrev pub asked_of : List ℕ → Data → Asked
asked_of method d =
    if bytes_eq method (codes "initialize") then initialize (client_of d)
    else (if bytes_eq method (codes "shutdown") then shutdown
    else (if bytes_eq method (codes "workspace/symbol") then search_of d else asked_about (topic_of method) d))

-- what parameters say, if they are those of the method
abbrev pub told_by : List ℕ → Data → Option Told
told_by method params =
    if bytes_eq method (codes "textDocument/didOpen") then opened_of params
    else (if bytes_eq method (codes "textDocument/didChange") then changed_of params
    else (if bytes_eq method (codes "textDocument/didClose") then closed_of params else None))

-- the methods by which a document is opened, changed and closed
abbrev pub is_about_document : List ℕ → Bool
is_about_document method =
    bytes_eq method (codes "textDocument/didOpen") || bytes_eq method (codes "textDocument/didChange")
    || bytes_eq method (codes "textDocument/didClose")

-- the URI of the document that a notification is about
abbrev pub uri_in : Data → Option (List ℕ)
uri_in d = do
  params ← get (codes "params") d
  document ← get (codes "textDocument") params
  text_at (codes "uri") document

-- what is said by parameters that are not those of the method
abbrev pub unreadable_of : List ℕ → Data → Told
unreadable_of method d = if is_about_document method then unreadable (uri_in d) else nothing

abbrev pub told_of : List ℕ → Data → Told
told_of method d =
    if bytes_eq method (codes "exit") then exited
    else unwrap_or (option_and_then (told_by method) (get (codes "params") d)) (unreadable_of method d)

-- ---- messages ("Base Protocol")

-- an id is a string or an integer ("Request Message")
abbrev pub is_id : Data → Bool
is_id null = false
is_id (boolean b) = false
is_id (number n) = not (is_float n)
is_id (string s) = true
is_id (array ds) = false
is_id (object ms) = false

abbrev pub id_of : Data → Option Data
id_of d = if is_id d then Some d else None

abbrev pub id_in : Data → Option Data
id_in d = option_and_then id_of (get (codes "id") d)

-- a request, if its id is an id
abbrev pub request_of : List ℕ → Data → Option Data → Meaning
request_of method d None = faulty None
request_of method d (Some id) = request id (asked_of method d)

-- a message with a method is a notification if no id is there
abbrev pub called_of : List ℕ → Data → Meaning
called_of method d =
    if is_some (get (codes "id") d) then request_of method d (id_in d) else notification (told_of method d)

-- the method is a string
abbrev pub method_meaning : Data → Option (List ℕ) → Meaning
method_meaning d None = faulty (id_in d)
method_meaning d (Some method) = called_of method d

-- what has no method is a response, or nothing that is known
abbrev pub response_or_fault : Data → Meaning
response_or_fault d = if is_some (get (codes "result") d) || is_some (get (codes "error") d) then response else faulty (id_in d)

-- what a message means whose method is this, if it has one
abbrev pub meaning_by : Data → Option Data → Meaning
meaning_by d None = response_or_fault d
meaning_by d (Some method) = method_meaning d (as_str method)

-- what a message means
abbrev pub message_of : Data → Meaning
message_of d = meaning_by d (get (codes "method") d)
