-- What the server does with a message (LSP 3.17, "Server lifecycle" and "Text Document
-- Synchronization").
use Rattle.std.specs.Prelude.{ℕ, ◌++◌, ◌||◌, List, [], ◌∷◌, Bool, false, true, not, Option, None, Some, drop, is_some, map, max, option_map, take}
use Rattle.std.specs.Prelude.{if◌then◌else◌}
use Rattle.std.specs.List.{filter, flat_map}
use Rattle.std.specs.Option.{option_to_list}
use Rattle.std.specs.Str.{bytes_eq}
use Rattle.serde_json.specs.Data.{Data}
use Rattle.lsp_messages.specs.Messages.{Asked, initialize, shutdown, about, search, unreadable, unknown, Edit, Meaning, message_of, Query, request, notification}
use Rattle.lsp_messages.specs.Messages.{response, faulty, Told, exited, opened, changed, closed, unreadable, nothing}
use Rattle.source_types.specs.declared.failures.Failure.{Failure}
use Rattle.source_types.specs.declared.failures.Failure.TheVariants.{BadParameters, NoJson, NoMethod, NoRequest, NotInitialized}
use Rattle.lsp_messages.specs.declared.clients.Client.{Client}
use Rattle.source_types.specs.declared.places.Position.{Position}
use Rattle.source_types.specs.declared.places.Range.{Range}
use Rattle.lsp_server.specs.declared.phase.Phase.{Phase}
use Rattle.lsp_server.specs.declared.phase.Phase.TheVariants.{Fresh, Running, Finished, Ended}

-- an open document; its version may not be known; it is current if its text is that of the client,
-- or out of date since a message about it was not read; its faults are due if they were not
-- published since it was last opened or changed; its client says what it wants of it
pub record Open : Type 0 where
  pub uri : List ℕ
  pub version : Option ℕ
  pub text : List ℕ
  pub current : Bool
  pub due : Bool
  pub client : Client

-- where the server is in its life, and the documents that are open
pub record State : Type 0 where
  pub phase : Phase
  pub documents : List Open

-- what is sent: that the server is ready for a client, or will end, or why a request is refused;
-- what comes of a question of a client about a document; the symbols of documents whose names hold a
-- text; the diagnostics of a document, or none of
-- one that was closed; that a message about a document, whose URI may be known, was not read
pub data Answer : Type 0 where
  ready : Data → Client → Answer
  done : Data → Answer
  refused : Option Data → Failure → Answer
  answered : Data → Client → Open → Query → Answer
  searched : Data → List Open → List ℕ → Answer
  shown : Open → Answer
  cleared : List ℕ → Answer
  warned : Option (List ℕ) → Answer

-- the state before the first message: no document is open
abbrev pub at_start : State
at_start = record { phase = Fresh; documents = [] }

-- the document of that URI
abbrev pub open_at : List ℕ → List Open → Option Open
open_at uri [] = None
open_at uri (document ∷ documents) = if bytes_eq document.uri uri then Some document else open_at uri documents

-- ---- requests

abbrev pub requested_fresh : Data → Asked → Phase × Answer
requested_fresh id (initialize client) = (Running client, ready id client)
requested_fresh id shutdown = (Fresh, refused (Some id) NotInitialized)
requested_fresh id (about uri query) = (Fresh, refused (Some id) NotInitialized)
requested_fresh id (search held) = (Fresh, refused (Some id) NotInitialized)
requested_fresh id unreadable = (Fresh, refused (Some id) NotInitialized)
requested_fresh id unknown = (Fresh, refused (Some id) NotInitialized)

-- the document, if it is current
abbrev pub current_of : Option Open → Option Open
current_of None = None
current_of (Some document) = if document.current then Some document else None

-- a question of a client about a document is answered if there is one
abbrev pub answered_of : Data → Client → Query → Option Open → Answer
answered_of id client query None = refused (Some id) BadParameters
answered_of id client query (Some document) = answered id client document query

abbrev pub requested_running : Client → List Open → Data → Asked → Phase × Answer
requested_running client documents id (initialize other) = (Running client, refused (Some id) NoRequest)
requested_running client documents id shutdown = (Finished, done id)
requested_running client documents id (about uri query) = (Running client, answered_of id client query (current_of (open_at uri documents)))
requested_running client documents id (search held) = (Running client, searched id documents held)
requested_running client documents id unreadable = (Running client, refused (Some id) BadParameters)
requested_running client documents id unknown = (Running client, refused (Some id) NoMethod)

-- what becomes of the phase, and the answer
abbrev pub requested : List Open → Phase → Data → Asked → Phase × Answer
requested documents Fresh id asked = requested_fresh id asked
requested documents (Running client) id asked = requested_running client documents id asked
requested documents Finished id asked = (Finished, refused (Some id) NoRequest)
requested documents (Ended status) id asked = (Ended status, refused (Some id) NoRequest)

-- ---- the text of a document

-- where a place is in a text
abbrev pub Places : Type 0
Places = List ℕ → Position → ℕ

-- a text whose bytes from `start` to before `end` are exchanged; an end before the start is the
-- start
abbrev pub with_part : List ℕ → ℕ → ℕ → List ℕ → List ℕ
with_part text start end new = take start text ++ new ++ drop (max start end) text

abbrev pub with_range : Places → List ℕ → Option Range → List ℕ → List ℕ
with_range places text None new = new
with_range places text (Some range) new = with_part text (places text range.start) (places text range.end) new

-- the edits in order, each in the text that the ones before made
abbrev pub edited : Places → List ℕ → List Edit → List ℕ
edited places text [] = text
edited places text (edit ∷ edits) = edited places (with_range places text edit.range edit.text) edits

-- ---- the documents

-- the documents, the one of that URI changed
abbrev pub with_change : List ℕ → (Open → Open) → List Open → List Open
with_change uri change [] = []
with_change uri change (document ∷ documents) =
    if bytes_eq document.uri uri then change document ∷ documents else document ∷ with_change uri change documents

-- with this document, in place of one of its URI
abbrev pub with_document : Open → List Open → List Open
with_document new [] = new ∷ []
with_document new (document ∷ documents) =
    if bytes_eq document.uri new.uri then new ∷ documents else document ∷ with_document new documents

-- without that of the URI
abbrev pub without : List ℕ → List Open → List Open
without uri documents = filter (λ document. not (bytes_eq document.uri uri)) documents

-- a document whose text is edited
abbrev pub with_edits : Places → Option ℕ → List Edit → Open → Open
with_edits places version edits document =
    record { uri = document.uri; version = version; text = edited places document.text edits; current = true; due = true; client = document.client }

-- one of the edits sends the whole text
abbrev pub send_whole : List Edit → Bool
send_whole [] = false
send_whole (edit ∷ edits) = not (is_some edit.range) || send_whole edits

-- a document takes edits if it is current, or is so after them
abbrev pub can_apply : List Edit → Open → Bool
can_apply edits document = document.current || send_whole edits

-- the document after them
abbrev pub changed_by : Places → Option ℕ → List Edit → Open → Open
changed_by places version edits document = if can_apply edits document then with_edits places version edits document else document

-- a document that is not current any more
abbrev pub outdated : Open → Open
outdated document = record { uri = document.uri; version = document.version; text = document.text; current = false; due = document.due; client = document.client }

abbrev pub outdated_at : Option (List ℕ) → List Open → List Open
outdated_at None documents = documents
outdated_at (Some uri) documents = with_change uri outdated documents

abbrev pub closed_at : List ℕ → List Open → List Open × Option Answer
closed_at uri documents = (without uri documents, option_map (λ document. cleared uri) (open_at uri documents))

-- a document that a client opens
abbrev pub opened_for : Client → List ℕ → Option ℕ → List ℕ → Open
opened_for client uri version text = record { uri = uri; version = version; text = text; current = true; due = true; client = client }

abbrev pub told : Places → Client → Told → List Open → List Open × Option Answer
told places client exited documents = (documents, None)
told places client (opened uri version text) documents = (with_document (opened_for client uri version text) documents, None)
told places client (changed uri version edits) documents = (with_change uri (changed_by places version edits) documents, None)
told places client (closed uri) documents = closed_at uri documents
told places client (unreadable uri) documents = (outdated_at uri documents, Some (warned uri))
told places client nothing documents = (documents, None)

-- ---- faults that are due

-- a document whose faults are published
abbrev pub published : Open → Open
published document = record {
  uri = document.uri;
  version = document.version;
  text = document.text;
  current = document.current;
  due = false;
  client = document.client;
}

-- what is sent of a document whose faults are due
abbrev pub shown_if_due : Open → List Answer
shown_if_due document = if document.due then shown (published document) ∷ [] else []

-- what is sent of documents, in their order
abbrev pub shown_due : List Open → List Answer
shown_due documents = flat_map shown_if_due documents

-- the state after that
abbrev pub all_published : State → State
all_published state = record { phase = state.phase; documents = map published state.documents }

-- the state after that, if it is wanted
abbrev pub published_if : Bool → State → State
published_if true state = all_published state
published_if false state = state

-- what is sent then
abbrev pub due_if : Bool → State → List Answer
due_if true state = shown_due state.documents
due_if false state = []

-- ---- messages

-- `exit` ends the server, well after `shutdown` alone
abbrev pub ended_by : Phase → Phase
ended_by Fresh = Ended 1
ended_by (Running client) = Ended 1
ended_by Finished = Ended 0
ended_by (Ended status) = Ended status

-- where the server is after it was told this
abbrev pub phase_told : Phase → Told → Phase
phase_told phase exited = ended_by phase
phase_told phase (opened uri version text) = phase
phase_told phase (changed uri version edits) = phase
phase_told phase (closed uri) = phase
phase_told phase (unreadable uri) = phase
phase_told phase nothing = phase

-- documents are told about notifications while the server runs
abbrev pub told_in : Places → Phase → Told → List Open → List Open × Option Answer
told_in places Fresh notice documents = (documents, None)
told_in places (Running client) notice documents = told places client notice documents
told_in places Finished notice documents = (documents, None)
told_in places (Ended status) notice documents = (documents, None)

-- the state after a message, and what is sent, but for faults
abbrev pub step : Places → State → Meaning → State × Option Answer
step places state (request id asked) = (
  record { phase = (requested state.documents state.phase id asked).0; documents = state.documents },
  Some ((requested state.documents state.phase id asked).1),
)
step places state (notification notice) = (
  record { phase = phase_told state.phase notice; documents = (told_in places state.phase notice state.documents).0 },
  (told_in places state.phase notice state.documents).1,
)
step places state response = (state, None)
step places state (faulty id) = (state, Some (refused id NoRequest))

-- whether the faults that are due are published before a notification is taken: a document that is
-- opened, changed or closed is one of a row of changes that are taken together
abbrev pub publishes_told : Told → Bool
publishes_told exited = true
publishes_told (opened uri version text) = false
publishes_told (changed uri version edits) = false
publishes_told (closed uri) = false
publishes_told (unreadable uri) = true
publishes_told nothing = false

-- the same of a message: before a request is answered what is due is published
abbrev pub publishes_first : Meaning → Bool
publishes_first (request id asked) = true
publishes_first (notification notice) = publishes_told notice
publishes_first response = false
publishes_first (faulty id) = false

-- what is sent before a message, put before what is sent for it
abbrev pub with_answers : List Answer → State × Option Answer → State × List Answer
with_answers before after = (after.0, before ++ option_to_list after.1)

-- the state after a message, and what is sent before it and for it
abbrev pub taken : Places → State → Meaning → State × List Answer
taken places state message =
    with_answers (due_if (publishes_first message) state) (step places (published_if (publishes_first message) state) message)

-- the same after a body that is this value, or none: no JSON, or too long
abbrev pub taken_value : Places → State → Option Data → State × List Answer
taken_value places state None = (state, refused None NoJson ∷ [])
taken_value places state (Some value) = taken places state (message_of value)

-- if no whole frame waits, what is due is published after that
abbrev pub settled : Bool → State × List Answer → State × List Answer
settled waits after = (published_if (not waits) after.0, after.1 ++ due_if (not waits) after.0)

-- the state after a message, after which a whole frame waits or not, and what is sent
abbrev pub turned : Places → State → Meaning → Bool → State × List Answer
turned places state message waits = settled waits (taken places state message)

-- the same after a body
abbrev pub replied : Places → State → Option Data → Bool → State × List Answer
replied places state value waits = settled waits (taken_value places state value)
