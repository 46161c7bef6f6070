-- What a source says of a text that is open in an editor.
use Rattle.std.specs.Prelude.{ℕ, ◌≡◌, List, false}
use Rattle.serde_json.specs.Data.{Data, Items}
use Rattle.serde_json.specs.View.{items_of}
use Rattle.serde_json.specs.Written.{has_float, items_have_float}
use Rattle.lsp_messages.specs.Messages.{Query}
use Rattle.lsp_messages.specs.declared.clients.Client.{Client}
use Rattle.lsp_values.specs.Shapes.{Said, said_answer, said_refusal}

-- the diagnostics of a text for a client, and what comes of questions of a client about it, under the
-- URI of its document; the symbols of it whose names hold another text, under the same
pub record Sayings : Type 0 where
  pub diagnostics : Client → List ℕ → Items
  pub answers : Client → List ℕ → List ℕ → Query → Said
  pub symbols : List ℕ → List ℕ → List ℕ → List Data

-- an answer has no float; a refusal never has one
abbrev pub SaidHasNoFloat : Said → Type 0
SaidHasNoFloat (said_answer result) = has_float result ≡ false
SaidHasNoFloat (said_refusal failure) = Unit {0}

-- nothing that is said has a float, whose text would not be known
pub record HasNoFloats (says : Sayings) : Type 0 where
  pub diagnostics : (client : Client) (text : List ℕ) → items_have_float (says.diagnostics client text) ≡ false
  pub answers : (client : Client) (text uri : List ℕ) (query : Query) → SaidHasNoFloat (says.answers client text uri query)
  pub symbols : (text uri held : List ℕ) → items_have_float (items_of (says.symbols text uri held)) ≡ false
