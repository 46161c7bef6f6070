use Rattle.std.proofs.Common.{◌≡◌, ◌++◌, drop, map}
use Rattle.serde_json.specs.View.{view}
use Rattle.lsp_server.specs.Answers.{found_among}
use Rattle.lsp_server.specs.States.{documents_view}
use Rattle.lsp_server.proofs.documents.search.Given as goal

-- what was found, and what will be in the documents that are left
abbrev pub invariant-loop-document : goal.invariant-loop-document
invariant-loop-document g l =
    map view l.values.items ++ found_among (g.D.HeldText.says l.surroundings) l.held (documents_view g.D.HeldText.text_of (drop l.document-index l.documents))
    ≡ found_among (g.D.HeldText.says l.surroundings) l.held (documents_view g.D.HeldText.text_of l.documents)
