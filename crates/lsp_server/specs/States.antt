-- The state that a server is in.
use Rattle.std.specs.Prelude.{ℕ, ◌≡◌, List, Option, None, Some, map}
use Rattle.std.specs.String.{string_bytes}
use Rattle.serde_json.specs.View.{view}
use Rattle.serde_json.specs.declared.value.Value.{Value}
use Rattle.lsp_server.specs.Answers.{answer_data}
use Rattle.lsp_server.specs.Sayings.{Sayings}
use Rattle.lsp_server.specs.Steps.{Answer, Open, State}
use Rattle.lsp_server.specs.declared.documents.Opened.{Opened}
use Rattle.lsp_server.specs.declared.phase.Phase.{Phase}
use Rattle.lsp_server.specs.declared.phase.Phase.TheVariants.{Fresh, Running, Finished, Ended}
use Rattle.lsp_server.specs.declared.server.Server.{Server}

-- a document that is held in memory, as plain data
abbrev pub open_view : {D : Type 0} → (D → List ℕ) → Opened D → Open
open_view text_of document = record {
  uri = string_bytes document.uri;
  version = document.version;
  text = text_of document.source;
  current = document.is_current;
  due = document.is_due;
  client = document.client;
}

-- the documents that are held in memory, as plain data
abbrev pub documents_view : {D : Type 0} → (D → List ℕ) → List (Opened D) → List Open
documents_view text_of documents = map (open_view text_of) documents

-- the state of a server, as plain data
abbrev pub state_of : {D : Type 0} → (D → List ℕ) → Server D → State
state_of text_of server = record { phase = server.phase; documents = documents_view text_of server.documents.items }

-- the status of the process, once the server has ended
abbrev pub phase_status : Phase → Option ℕ
phase_status Fresh = None
phase_status (Running client) = None
phase_status Finished = None
phase_status (Ended status) = Some status

-- the status of the process in a state
abbrev pub status_of : State → Option ℕ
status_of state = phase_status state.phase

-- the state and the values are those that were wanted
abbrev pub Answers : {D : Type 0} → (D → List ℕ) → Sayings → Server D → List Value → State × List Answer → Type 0
Answers text_of says server values wanted =
    (state_of text_of server ≡ wanted.0) × (map view values ≡ map (answer_data says) wanted.1)
