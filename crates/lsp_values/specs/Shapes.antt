-- The values that a language server sends (LSP 3.17; the section is named at each). Members are in
-- the order of their keys.
use Rattle.std.specs.Prelude.{ℕ, ◌++◌, List, Bool, codes, true, false, Option, None, Some, unwrap_or}
use Rattle.serde_json.specs.Data.{Data, null, boolean, number, negative, unsigned, string, array, object, Items, Members, item, no_items, no_members, member}
use Rattle.source_types.specs.Failures.{code_of, sentence_of}
use Rattle.source_types.specs.Numbers.{item_number, severity_number}
use Rattle.source_types.specs.declared.items.ItemKind.{ItemKind}
use Rattle.lsp_messages.specs.declared.clients.Client.{Client}
use Rattle.source_types.specs.declared.failures.Failure.{Failure}
use Rattle.source_types.specs.declared.places.Position.{Position}
use Rattle.source_types.specs.declared.places.Range.{Range}
use Rattle.source_types.specs.declared.severities.Severity.{Severity}

-- a natural number
abbrev pub natural : ℕ → Data
natural n = number (unsigned n)

-- "Position"
abbrev pub position_data : Position → Data
position_data place = object (member (codes "character") (natural place.column) (member (codes "line") (natural place.line) no_members))

-- "Range"
abbrev pub range_data : Range → Data
range_data range = object (member (codes "end") (position_data range.end) (member (codes "start") (position_data range.start) no_members))

-- "Diagnostic"
abbrev pub diagnostic_data : Range → Severity → List ℕ → List ℕ → Data
diagnostic_data range severity code message =
    object (member (codes "code") (string code)
    (member (codes "message") (string message)
    (member (codes "range") (range_data range)
    (member (codes "severity") (natural (severity_number severity))
    (member (codes "source") (string (codes "ti")) no_members)))))

-- "Notification Message"
abbrev pub notification_data : List ℕ → Data → Data
notification_data method params =
    object (member (codes "jsonrpc") (string (codes "2.0"))
    (member (codes "method") (string method)
    (member (codes "params") params no_members)))

-- "PublishDiagnosticsParams"
abbrev pub published_data : List ℕ → Option ℕ → Items → Data
published_data uri None diagnostics =
    object (member (codes "diagnostics") (array diagnostics) (member (codes "uri") (string uri) no_members))
published_data uri (Some version) diagnostics =
    object (member (codes "diagnostics") (array diagnostics)
    (member (codes "uri") (string uri)
    (member (codes "version") (natural version) no_members)))

-- "PublishDiagnostics Notification"
abbrev pub publish_data : List ℕ → Option ℕ → Items → Data
publish_data uri version diagnostics = notification_data (codes "textDocument/publishDiagnostics") (published_data uri version diagnostics)

-- what is said where a message about a document could not be read, of which the URI may be known
-- (own)
abbrev pub unreadable_sentence : Option (List ℕ) → List ℕ
unreadable_sentence None = codes "A message about a document could not be read. Close the documents, and open them again."
unreadable_sentence (Some uri) = codes "A message about " ++ uri ++ codes " could not be read. Close the document, and open it again."

-- "ShowMessage Notification"; the type 1 is an error ("MessageType")
abbrev pub unreadable_data : Option (List ℕ) → Data
unreadable_data uri =
    notification_data (codes "window/showMessage")
    (object (member (codes "message") (string (unreadable_sentence uri)) (member (codes "type") (natural 1) no_members)))

-- "Response Message"
abbrev pub response_data : Data → Data → Data
response_data id result =
    object (member (codes "id") id
    (member (codes "jsonrpc") (string (codes "2.0"))
    (member (codes "result") result no_members)))

-- "ResponseError"
abbrev pub failure_data : Failure → Data
failure_data failure =
    object (member (codes "code") (number (negative (code_of failure)))
    (member (codes "message") (string (sentence_of failure)) no_members))

-- "Response Message"; a message without an id is answered with `null`
abbrev pub refusal_data : Option Data → Failure → Data
refusal_data id failure =
    object (member (codes "error") (failure_data failure)
    (member (codes "id") (unwrap_or id null)
    (member (codes "jsonrpc") (string (codes "2.0")) no_members)))

-- what comes of a question about a document: its answer, or why it is refused
pub data Said : Type 0 where
  said_answer : Data → Said
  said_refusal : Failure → Said

-- "Response Message" to a question about a document
abbrev pub reply_data : Data → Said → Data
reply_data id (said_answer result) = response_data id result
reply_data id (said_refusal failure) = refusal_data (Some id) failure

-- ---- answers to questions about a document

-- "Location"
abbrev pub location_data : List ℕ → Range → Data
location_data uri range = object (member (codes "range") (range_data range) (member (codes "uri") (string uri) no_members))

-- "DocumentSymbol"; the kind 23 is a struct ("SymbolKind")
abbrev pub symbol_data : List ℕ → Range → Range → Data
symbol_data name range selection =
    object (member (codes "kind") (natural 23)
    (member (codes "name") (string name)
    (member (codes "range") (range_data range)
    (member (codes "selectionRange") (range_data selection) no_members))))

-- "SymbolInformation", for a client that takes no hierarchy
abbrev pub symbol_information_data : List ℕ → List ℕ → Range → Data
symbol_information_data uri name range =
    object (member (codes "kind") (natural 23)
    (member (codes "location") (location_data uri range)
    (member (codes "name") (string name) no_members)))

-- "DocumentHighlight"
abbrev pub highlight_data : Range → Data
highlight_data range = object (member (codes "range") (range_data range) no_members)

-- "FoldingRange": lines from the first to the last, of an entry or of comments
-- ("FoldingRangeKind")
abbrev pub folding_data : (first last : ℕ) → Bool → Data
folding_data first last false = object (member (codes "endLine") (natural last) (member (codes "startLine") (natural first) no_members))
folding_data first last true =
    object (member (codes "endLine") (natural last)
    (member (codes "kind") (string (codes "comment"))
    (member (codes "startLine") (natural first) no_members)))

-- "MarkupContent"
abbrev pub plain_data : List ℕ → Data
plain_data text = object (member (codes "kind") (string (codes "plaintext")) (member (codes "value") (string text) no_members))

-- "Hover"
abbrev pub hover_data : List ℕ → Range → Data
hover_data text range = object (member (codes "contents") (plain_data text) (member (codes "range") (range_data range) no_members))

-- "TextEdit"
abbrev pub text_edit_data : List ℕ → Range → Data
text_edit_data text range = object (member (codes "newText") (string text) (member (codes "range") (range_data range) no_members))

-- "WorkspaceEdit": the edits of one document
abbrev pub workspace_edit_data : List ℕ → Items → Data
workspace_edit_data uri edits = object (member (codes "changes") (object (member uri (array edits) no_members)) no_members)

-- "CodeAction": a quick fix that makes one edit in one document, preferred or not, and the
-- diagnostics that it resolves
abbrev pub action_data : List ℕ → List ℕ → Range → List ℕ → Bool → Items → Data
action_data uri title range text false diagnostics =
    object (member (codes "diagnostics") (array diagnostics)
    (member (codes "edit") (workspace_edit_data uri (item (text_edit_data text range) no_items))
    (member (codes "kind") (string (codes "quickfix"))
    (member (codes "title") (string title) no_members))))
action_data uri title range text true diagnostics =
    object (member (codes "diagnostics") (array diagnostics)
    (member (codes "edit") (workspace_edit_data uri (item (text_edit_data text range) no_items))
    (member (codes "isPreferred") (boolean true)
    (member (codes "kind") (string (codes "quickfix"))
    (member (codes "title") (string title) no_members)))))

-- "CompletionItem"; its label is what it is found by, and what is put in place of the range
abbrev pub item_data : ItemKind → List ℕ → List ℕ → Option (List ℕ) → Range → Data
item_data kind label detail None range =
    object (member (codes "detail") (string detail)
    (member (codes "filterText") (string label)
    (member (codes "kind") (natural (item_number kind))
    (member (codes "label") (string label)
    (member (codes "textEdit") (text_edit_data label range) no_members)))))
item_data kind label detail (Some documentation) range =
    object (member (codes "detail") (string detail)
    (member (codes "documentation") (string documentation)
    (member (codes "filterText") (string label)
    (member (codes "kind") (natural (item_number kind))
    (member (codes "label") (string label)
    (member (codes "textEdit") (text_edit_data label range) no_members))))))

-- "CompletionItem" that offers an obsolete name: it comes after all others, and the tag 1 says
-- "Deprecated" ("CompletionItemTag")
abbrev pub obsolete_item_data : ItemKind → List ℕ → List ℕ → List ℕ → Range → Data
obsolete_item_data kind label detail documentation range =
    object (member (codes "detail") (string detail)
    (member (codes "documentation") (string documentation)
    (member (codes "filterText") (string label)
    (member (codes "kind") (natural (item_number kind))
    (member (codes "label") (string label)
    (member (codes "sortText") (string (codes "~" ++ label))
    (member (codes "tags") (array (item (natural 1) no_items))
    (member (codes "textEdit") (text_edit_data label range) no_members))))))))

-- "CompletionItem" that comes after those that have no text to sort by, and before obsolete ones:
-- the bar is after letters and digits, and before the tilde
abbrev pub later_item_data : ItemKind → List ℕ → List ℕ → List ℕ → Range → Data
later_item_data kind label detail documentation range =
    object (member (codes "detail") (string detail)
    (member (codes "documentation") (string documentation)
    (member (codes "filterText") (string label)
    (member (codes "kind") (natural (item_number kind))
    (member (codes "label") (string label)
    (member (codes "sortText") (string (codes "|" ++ label))
    (member (codes "textEdit") (text_edit_data label range) no_members)))))))

-- "ParameterInformation"
abbrev pub parameter_data : List ℕ → Data
parameter_data label = object (member (codes "label") (string label) no_members)

-- "SignatureInformation"
abbrev pub signature_data : List ℕ → Items → Data
signature_data label parameters = object (member (codes "label") (string label) (member (codes "parameters") (array parameters) no_members))

-- one signature, which is active
abbrev pub signatures_members : List ℕ → Items → Members
signatures_members label parameters =
    member (codes "activeSignature") (natural 0) (member (codes "signatures") (array (item (signature_data label parameters) no_items)) no_members)

-- "SignatureHelp": one signature, with the parameter that is active, counted from 0, if one is
abbrev pub signature_help_data : List ℕ → Items → Option ℕ → Data
signature_help_data label parameters None = object (signatures_members label parameters)
signature_help_data label parameters (Some active) = object (member (codes "activeParameter") (natural active) (signatures_members label parameters))

-- "CompletionList"
abbrev pub list_data : Items → Data
list_data items = object (member (codes "isIncomplete") (boolean false) (member (codes "items") (array items) no_members))

-- ---- what the server can do

-- "TextDocumentSyncOptions": documents are opened and closed, and 2 says that changes are parts of
-- the text
abbrev pub sync_data : Data
sync_data = object (member (codes "change") (natural 2) (member (codes "openClose") (boolean true) no_members))

-- "CompletionOptions": besides letters, an equals sign has the client ask; a comma does not, since
-- it ends a line too
abbrev pub completion_options_data : Data
completion_options_data =
    object (member (codes "triggerCharacters") (array (item (string (codes "=")) no_items)) no_members)

-- "SignatureHelpOptions": an equals sign and a percent sign have the client ask
abbrev pub signature_options_data : Data
signature_options_data =
    object (member (codes "triggerCharacters") (array (item (string (codes "=")) (item (string (codes "%")) no_items))) no_members)

-- "RenameOptions", for a client that asks first which name a rename is of
abbrev pub rename_options_data : Bool → Data
rename_options_data false = boolean true
rename_options_data true = object (member (codes "prepareProvider") (boolean true) no_members)

-- "CodeActionOptions": the actions are quick fixes; there are none for a client that takes commands
-- alone
abbrev pub action_options_data : Bool → Data
action_options_data false = boolean false
action_options_data true = object (member (codes "codeActionKinds") (array (item (string (codes "quickfix")) no_items)) no_members)

-- "ServerCapabilities": the first members, in the order of their keys
abbrev pub document_members : Client → Members
document_members client =
    member (codes "codeActionProvider") (action_options_data client.takes_actions)
    (member (codes "completionProvider") completion_options_data
    (member (codes "definitionProvider") (boolean true)
    (member (codes "documentFormattingProvider") (boolean true)
    (member (codes "documentHighlightProvider") (boolean true)
    (member (codes "documentRangeFormattingProvider") (boolean true)
    (member (codes "documentSymbolProvider") (boolean true)
    (member (codes "foldingRangeProvider") (boolean true)
    (member (codes "hoverProvider") (boolean true) no_members))))))))

-- "ServerCapabilities"
abbrev pub capabilities_data : Client → Data
capabilities_data client =
    object (member (codes "codeActionProvider") (action_options_data client.takes_actions)
    (member (codes "completionProvider") completion_options_data
    (member (codes "definitionProvider") (boolean true)
    (member (codes "documentFormattingProvider") (boolean true)
    (member (codes "documentHighlightProvider") (boolean true)
    (member (codes "documentRangeFormattingProvider") (boolean true)
    (member (codes "documentSymbolProvider") (boolean true)
    (member (codes "foldingRangeProvider") (boolean true)
    (member (codes "hoverProvider") (boolean true)
    (member (codes "positionEncoding") (string (codes "utf-16"))
    (member (codes "referencesProvider") (boolean true)
    (member (codes "renameProvider") (rename_options_data client.prepares_renames)
    (member (codes "signatureHelpProvider") signature_options_data
    (member (codes "textDocumentSync") sync_data
    (member (codes "workspaceSymbolProvider") (boolean true) no_members)))))))))))))))

-- "InitializeResult"
abbrev pub server_data : List ℕ → Data
server_data version =
    object (member (codes "name") (string (codes "ti-lsp"))
    (member (codes "version") (string version) no_members))

-- "InitializeResult": what the server can do, and its name and version
abbrev pub initialized_data : Client → List ℕ → Data
initialized_data client version =
    object (member (codes "capabilities") (capabilities_data client)
    (member (codes "serverInfo") (server_data version) no_members))
