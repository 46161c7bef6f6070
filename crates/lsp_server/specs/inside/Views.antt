-- What the server holds in memory, as plain data.
use Rattle.std.specs.Prelude.{ℕ, suc, ◌≡◌, List, [], ◌∷◌, ◌++◌, Option, None, Some, map, option_map, if◌then◌else◌}
use Rattle.std.specs.Option.{option_to_list}
use Rattle.std.specs.Str.{bytes_eq}
use Rattle.serde_json.specs.View.{view}
use Rattle.serde_json.specs.declared.value.Value.{Value}
use Rattle.lsp_server.specs.Answers.{answer_data}
use Rattle.lsp_server.specs.Sayings.{Sayings}
use Rattle.lsp_server.specs.States.{documents_view, state_of}
use Rattle.lsp_server.specs.Steps.{Answer, Open, State}
use Rattle.lsp_server.specs.declared.documents.Opened.{Opened}
use Rattle.lsp_server.specs.declared.phase.Phase.{Phase}
use Rattle.lsp_server.specs.declared.server.Server.{Server}

-- a phase and a value that are those that were wanted
abbrev pub IsAnswer : Sayings → Phase × Value → Phase × Answer → Type 0
IsAnswer says made wanted = (made.0 ≡ wanted.0) × (view made.1 ≡ answer_data says wanted.1)

-- where the document of that URI is
abbrev pub place_of : List ℕ → List Open → Option ℕ
place_of uri [] = None
place_of uri (document ∷ documents) = if bytes_eq document.uri uri then Some 0 else option_map suc (place_of uri documents)

-- the documents and the value are those that were wanted
abbrev pub Tells : {D : Type 0} → (D → List ℕ) → Sayings → List (Opened D) → Option Value → List Open × Option Answer → Type 0
Tells text_of says documents value wanted =
    (documents_view text_of documents ≡ wanted.0) × (option_map view value ≡ option_map (answer_data says) wanted.1)

-- the state and the value are those that were wanted
abbrev pub Steps : {D : Type 0} → (D → List ℕ) → Sayings → Server D → Option Value → State × Option Answer → Type 0
Steps text_of says server value wanted =
    (state_of text_of server ≡ wanted.0) × (option_map view value ≡ option_map (answer_data says) wanted.1)

-- the state is the one that was wanted, and the value that was wanted is put after others
abbrev pub Adds : {D : Type 0} → (D → List ℕ) → Sayings → Server D → List Value → List Value → State × Option Answer → Type 0
Adds text_of says server before now wanted =
    (state_of text_of server ≡ wanted.0) × (map view now ≡ map view before ++ map (answer_data says) (option_to_list wanted.1))
