-- What a message that borrows its strings means.
use Rattle.std.specs.Prelude.{map, option_map}
use Rattle.serde_json.specs.View.{view}
use Rattle.lsp_messages.specs.Messages as means
use Rattle.lsp_messages.specs.Messages.{Asked, Edit, Meaning, Query, Told}
use Rattle.lsp_messages.specs.declared.messages.Change.{Change}
use Rattle.lsp_messages.specs.declared.messages.Call.{Call}
use Rattle.lsp_messages.specs.declared.messages.Call.TheVariants as call
use Rattle.lsp_messages.specs.declared.messages.Notice.{Notice}
use Rattle.lsp_messages.specs.declared.messages.Notice.TheVariants.{Exited, Opened, Changed, Closed, Unreadable, Nothing}
use Rattle.lsp_messages.specs.declared.messages.Question.{Question}
use Rattle.lsp_messages.specs.declared.messages.Question.TheVariants.{Completion, Hover, Signature, Definition, References, Symbols, Highlights, Folding, Formatting, RangeFormatting, Rename, PrepareRename, Fixes}
use Rattle.lsp_messages.specs.declared.messages.Message.{Message}
use Rattle.lsp_messages.specs.declared.messages.Message.TheVariants.{Request, Notification, Response, Faulty}

abbrev pub edit_view : Change → Edit
edit_view change = record { range = change.range; text = change.text.now }

-- what is asked about a document, held in memory
abbrev pub question_view : Question → Query
question_view (Completion place) = means.completion place
question_view (Hover place) = means.hover place
question_view (Signature place) = means.signature place
question_view (Definition place) = means.definition place
question_view (References place with_declaration) = means.references place with_declaration
question_view Symbols = means.symbols
question_view (Highlights place) = means.highlights place
question_view Folding = means.folding
question_view Formatting = means.formatting
question_view (RangeFormatting range) = means.range_formatting range
question_view (Rename place name) = means.rename place name.now
question_view (PrepareRename place) = means.prepare_rename place
question_view (Fixes range wanted) = means.fixes range wanted

-- what a request that is held in memory asks
abbrev pub asked_view : Call → Asked
asked_view (call.Initialize client) = means.initialize client
asked_view call.Shutdown = means.shutdown
asked_view (call.Asked uri question) = means.about uri.now (question_view question)
asked_view (call.Search query) = means.search query.now
asked_view call.Faulty = means.unreadable
asked_view call.Unknown = means.unknown

-- what a notification that is held in memory says
abbrev pub told_view : Notice → Told
told_view Exited = means.exited
told_view (Opened uri version text) = means.opened uri.now version text.now
told_view (Changed uri version changes) = means.changed uri.now version (map edit_view changes.items)
told_view (Closed uri) = means.closed uri.now
told_view (Unreadable uri) = means.unreadable (option_map (λ text. text.now) uri)
told_view Nothing = means.nothing

-- what a message that is held in memory means
abbrev pub message_view : Message → Meaning
message_view (Request id asked) = means.request (view id.now) (asked_view asked)
message_view (Notification notice) = means.notification (told_view notice)
message_view Response = means.response
message_view (Faulty id) = means.faulty (option_map (λ d. view d.now) id)
