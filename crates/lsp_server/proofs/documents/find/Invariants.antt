use Rattle.std.proofs.Common.{◌≡◌, ◌+◌, drop, option_map}
use Rattle.lsp_server.specs.States.{documents_view}
use Rattle.lsp_server.specs.inside.Views.{place_of}
use Rattle.lsp_server.proofs.documents.find.Given as goal

-- the place is that among those which are left, past those which are passed
abbrev pub invariant-loop-at : goal.invariant-loop-at
invariant-loop-at g l =
    option_map (λ n. l.at + n) (place_of l.uri (documents_view g.D.HeldText.text_of (drop l.at l.documents)))
    ≡ place_of l.uri (documents_view g.D.HeldText.text_of l.documents)
