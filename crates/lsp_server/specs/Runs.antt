-- Whole runs of messages: what is shown of each document at their end.
use Rattle.std.specs.Prelude.{ℕ, ◌≡◌, Bool, false, List, [], ◌∷◌, ◌++◌, Option, None, Some, option_map, if◌then◌else◌}
use Rattle.std.specs.Str.{bytes_eq}
use Rattle.serde_json.specs.Data.{Data}
use Rattle.lsp_messages.specs.Messages.{Meaning, Query, about, request}
use Rattle.lsp_messages.specs.declared.clients.Client.{Client}
use Rattle.lsp_server.specs.Steps.{Answer, ready, done, refused, answered, searched, shown, cleared, warned, Open, Places, State, answered_of, at_start, current_of}
use Rattle.lsp_server.specs.Steps.{open_at, outdated, shown_due, taken, turned}
use Rattle.lsp_server.specs.declared.phase.Phase.TheVariants.{Running}

-- the state after these messages, each with whether a whole frame waits after it
abbrev pub state_after : Places → State → List (Meaning × Bool) → State
state_after places state [] = state
state_after places state (turn ∷ turns) = state_after places ((turned places state turn.0 turn.1).0) turns

-- what is sent in reply to them
abbrev pub answers_to : Places → State → List (Meaning × Bool) → List Answer
answers_to places state [] = []
answers_to places state (turn ∷ turns) =
    (turned places state turn.0 turn.1).1 ++ answers_to places ((turned places state turn.0 turn.1).0) turns

-- what is shown of a document after an answer, where `before` was; an error has it out of date
abbrev pub shown_by : List ℕ → Option Open → Answer → Option Open
shown_by uri before (ready id client) = before
shown_by uri before (done id) = before
shown_by uri before (refused id failure) = before
shown_by uri before (answered id client document query) = before
shown_by uri before (searched id documents held) = before
shown_by uri before (shown document) = if bytes_eq document.uri uri then Some document else before
shown_by uri before (cleared other) = if bytes_eq other uri then None else before
shown_by uri before (warned None) = before
shown_by uri before (warned (Some other)) = if bytes_eq other uri then option_map outdated before else before

-- the document whose diagnostics were published last for a URI, unless they were cleared since, and
-- whether an error was shown since, by which it is out of date
abbrev pub last_shown : List ℕ → Option Open → List Answer → Option Open
last_shown uri before [] = before
last_shown uri before (answer ∷ answers) = last_shown uri (shown_by uri before answer) answers

-- what is shown for a URI is the document that is open under it, unless its faults are due
abbrev pub IsShown : Option Open → Option Open → Type 0
IsShown seen None = seen ≡ None
IsShown seen (Some document) = document.due ≡ false → seen ≡ Some document

-- after any messages, what is shown for a URI is the text and version of the document that is open
-- under it, unless its faults are due; and an error was shown since exactly if it is out of date
abbrev pub OpenDocumentsAreShown : Type 0
OpenDocumentsAreShown =
    (places : Places) (turns : List (Meaning × Bool)) (uri : List ℕ)
    → IsShown (last_shown uri None (answers_to places at_start turns)) (open_at uri (state_after places at_start turns).documents)

-- after any messages, and one after which no whole frame waits, no faults are due: what is shown for
-- a URI is the document that is open under it
abbrev pub AllIsShownAtLast : Type 0
AllIsShownAtLast =
    (places : Places) (turns : List (Meaning × Bool)) (message : Meaning) (uri : List ℕ)
    → last_shown uri None (answers_to places at_start (turns ++ (message, false) ∷ []))
    ≡ open_at uri (state_after places at_start (turns ++ (message, false) ∷ [])).documents

-- after any messages, before a question is answered by the server that runs, what is due is
-- published; the answer is for the text whose diagnostics were published last, or the question is
-- refused if none are shown or it is out of date
abbrev pub AnswersAreOfShownTexts : Type 0
AnswersAreOfShownTexts =
    (places : Places) (turns : List (Meaning × Bool)) (client : Client) (id : Data) (uri : List ℕ) (query : Query)
    → (state_after places at_start turns).phase ≡ Running client
    → (published_first : List Answer) × (published_first ≡ shown_due (state_after places at_start turns).documents)
    × ((taken places (state_after places at_start turns) (request id (about uri query))).1
    ≡ published_first ++ answered_of id client query (current_of (last_shown uri None (answers_to places at_start turns ++ published_first))) ∷ [])
