use Rattle.std.proofs.Common.{◌-◌, length, map}
use Rattle.serde_json.specs.View.{view}
use Rattle.lsp_server.proofs.Publishing.{Published}
use Rattle.lsp_server.specs.States.{documents_view}
use Rattle.lsp_server.proofs.documents.publish.Given as goal

-- those before were published
abbrev pub invariant-loop-at : goal.invariant-loop-at
invariant-loop-at g l =
    Published (g.D.HeldText.says l.surroundings) (documents_view g.D.HeldText.text_of l.initial.documents.items)
    (documents_view g.D.HeldText.text_of l.documents.items)
    (map view l.initial.values.items) (map view l.values.items) l.at

abbrev pub decreases-loop-at : goal.decreases-loop-at
decreases-loop-at g l = length l.documents.items - l.at
