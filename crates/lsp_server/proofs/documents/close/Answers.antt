use Rattle.std.proofs.Common.{Some, refl, sym, ap}
use Rattle.serde_json.specs.Data.{Data}
use Rattle.lsp_server.proofs.Places.{close_found, close_none}
use Rattle.lsp_server.specs.States.{documents_view}
use Rattle.lsp_server.proofs.documents.close.Goals as goal

pub returns-in-None : goal.returns-in-None
returns-in-None g c =
    let place = rw c.deref.ensures.value at c.in-None.ensures.place in
    let h = close_none (documents_view g.D.HeldText.text_of c.args.documents.now.items) c.args.uri.now place in
    λ says. (sym h.0, rw h.1 refl)

pub returns-in_ok-publish_value-in-Some : goal.returns-in_ok-publish_value-in-Some
returns-in_ok-publish_value-in-Some g c =
    let place = rw c.deref.ensures.value at c.in-Some.ensures.place in
    let h = close_found (documents_view g.D.HeldText.text_of c.args.documents.now.items) c.args.uri.now c.in-Some.field-0 place in
    let sent = rw c.new.ensures.items at c.in_ok-publish_value-in-Some.ensures in
    λ says. (c.remove.ensures, rw h.1 (ap (λ (d : Data). Some d) sent))
