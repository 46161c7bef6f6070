use Rattle.std.proofs.Common.{◌≡◌, get_or, map, sym, ap, ◌∙◌}
use Rattle.std.proofs.Math.ListN.{get_or-map, set}
use Rattle.std.proofs.lemmas.List.{map-set}
use Rattle.lsp_messages.specs.Views.{edit_view}
use Rattle.lsp_server.proofs.Places.{change_found, change_none}
use Rattle.lsp_server.specs.States.{documents_view, open_view}
use Rattle.lsp_server.specs.Steps.{Open, changed_by}
use Rattle.lsp_server.proofs.documents.change.Goals as goal

pub returns-in-None : goal.returns-in-None
returns-in-None g c =
    let place = rw c.deref.ensures.value at c.in-None.ensures.place in
    sym (change_none (changed_by g.D.HeldText.place_in c.args.version (map edit_view c.args.changes.now))
    (documents_view g.D.HeldText.text_of c.args.documents.now.items) c.args.uri.now place).0

pub returns-in_ok-change_known-in-Some : goal.returns-in_ok-change_known-in-Some
returns-in_ok-change_known-in-Some g c =
    let place = rw c.deref.ensures.value at c.in-Some.ensures.place in
    let f = open_view g.D.HeldText.text_of in
    let at = c.in-Some.at in
    let documents = c.args.documents.now.items in
    let seen = documents_view g.D.HeldText.text_of documents in
    let old = f c.index_mut.result.now in
    let is : old ≡ get_or seen at old = ap f c.index_mut.ensures.value ∙ sym (get_or-map f documents at c.index_mut.result.now) in
    let h = change_found (changed_by g.D.HeldText.place_in c.args.version (map edit_view c.args.changes.now)) seen c.args.uri.now at place old is in
    let changed = ap (λ (d : Open). set seen at d) c.in_ok-change_known-in-Some.ensures in
    map-set f documents at c.change_known.new.document ∙ (changed ∙ sym h.0)
