use Rattle.std.proofs.Common.{◌≡◌, get_or, refl, sym, ap, ◌∙◌}
use Rattle.std.proofs.Math.ListN.{get_or-map}
use Rattle.std.proofs.Math.Seq.{map-set_same}
use Rattle.lsp_server.proofs.Places.{open_found, open_none}
use Rattle.lsp_server.specs.States.{documents_view, open_view}
use Rattle.lsp_server.proofs.documents.ask.Goals as goal

pub returns-in-None-clause-reply : goal.returns-in-None-clause-reply
returns-in-None-clause-reply g c =
    let place = rw c.deref.ensures.value at c.in-None.ensures.place in
    rw (open_none (documents_view g.D.HeldText.text_of c.args.documents.now.items) c.args.uri.now place) refl

pub returns-in_ok-reply-in-Some-clause-documents : goal.returns-in_ok-reply-in-Some-clause-documents
returns-in_ok-reply-in-Some-clause-documents g c =
    let f = open_view g.D.HeldText.text_of in
    let same = c.in_ok-reply-in-Some.ensures.document ∙ ap f c.index_mut.ensures.value in
    map-set_same f c.args.documents.now.items c.in-Some.at c.ask_current.new.document c.index_mut.result.now same

pub returns-in_ok-reply-in-Some-clause-reply : goal.returns-in_ok-reply-in-Some-clause-reply
returns-in_ok-reply-in-Some-clause-reply g c =
    let place = rw c.deref.ensures.value at c.in-Some.ensures.place in
    let f = open_view g.D.HeldText.text_of in
    let at = c.in-Some.at in
    let documents = c.args.documents.now.items in
    let seen = documents_view g.D.HeldText.text_of documents in
    let old = f c.index_mut.result.now in
    let is : old ≡ get_or seen at old = ap f c.index_mut.ensures.value ∙ sym (get_or-map f documents at c.index_mut.result.now) in
    rw (open_found seen c.args.uri.now at place old is) c.in_ok-reply-in-Some.ensures.reply
