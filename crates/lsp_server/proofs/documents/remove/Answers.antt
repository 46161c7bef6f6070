use Rattle.std.proofs.Common.{◌≡◌, ◌∙◌, ap, not, rules}
use Rattle.std.specs.List.{filter}
use Rattle.std.specs.Str.{bytes_eq}
use Rattle.std.proofs.lemmas.Fn.{filter_same}
use Rattle.lsp_server.proofs.Places.{filter_seen}
use Rattle.lsp_server.specs.Steps.{Open}
use Rattle.lsp_server.specs.States.{documents_view, open_view}
use Rattle.lsp_server.proofs.documents.remove.Goals as goal

pub returns : goal.returns
returns g c =
    let test = λ (d : Open). not (bytes_eq d.uri c.args.uri.now) in
    let kept : c.retain.new.self.items ≡ filter (λ d. test (open_view g.D.HeldText.text_of d)) c.args.documents.now.items =
    filter_same _ _ _ (λ x b f h. search rules) _ _ c.retain.ensures.filtered in
    ap (documents_view g.D.HeldText.text_of) kept ∙ filter_seen (open_view g.D.HeldText.text_of) test c.args.documents.now.items
