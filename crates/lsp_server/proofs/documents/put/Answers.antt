use Rattle.std.proofs.Common.{◌≡◌, ◌++◌, ◌∷◌, [], sym, ap, ◌∙◌, rules}
use Rattle.std.proofs.lemmas.List.{map-append, map-set}
use Rattle.lsp_server.proofs.Places.{put_found, put_none}
use Rattle.lsp_server.specs.States.{documents_view, open_view}
use Rattle.lsp_server.proofs.documents.put.Goals as goal

pub returns-in-Some : goal.returns-in-Some
returns-in-Some g c =
    let place = rw c.deref.ensures.value at c.in-Some.ensures.place in
    let f = open_view g.D.HeldText.text_of in
    let documents = c.args.documents.now.items in
    let found = put_found (f c.args.new) (documents_view g.D.HeldText.text_of documents) c.as_str.result.now c.in-Some.at c.as_str.ensures.value place in
    map-set f documents c.in-Some.at c.args.new ∙ sym found

pub returns-in_ok-push-in-None : goal.returns-in_ok-push-in-None
returns-in_ok-push-in-None g c =
    let place = rw c.deref.ensures.value at c.in-None.ensures.place in
    let pushed : c.push.new.self.items ≡ c.args.documents.now.items ++ c.args.new ∷ [] = search rules in
    let f = open_view g.D.HeldText.text_of in
    let documents = c.args.documents.now.items in
    let last = put_none (f c.args.new) (documents_view g.D.HeldText.text_of documents) c.as_str.result.now c.as_str.ensures.value place in
    ap (documents_view g.D.HeldText.text_of) pushed ∙ (map-append f documents (c.args.new ∷ []) ∙ sym last)
