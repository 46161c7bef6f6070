use Rattle.std.proofs.Common.{◌≡◌, ◌++◌, ◌∷◌, [], map, ap, ◌∙◌, rules}
use Rattle.std.proofs.lemmas.List.{map-append}
use Rattle.serde_json.specs.View.{view}
use Rattle.lsp_server.proofs.Publishing.{added_none, added_some}
use Rattle.lsp_server.proofs.server.Server.push_answer.Goals as goal

pub returns-in-None : goal.returns-in-None
returns-in-None g c =
    let made = c.in_ok-answer.ensures in
    (made.0, added_none (g.D.HeldText.says c.args.surroundings.now) (map view c.args.answers.now.items) _ (rw c.in-None.is at made.1))

pub returns-in_ok-push-in-Some : goal.returns-in_ok-push-in-Some
returns-in_ok-push-in-Some g c =
    let made = c.in_ok-answer.ensures in
    let pushed : c.push.new.self.items ≡ c.args.answers.now.items ++ c.in-Some.answer ∷ [] = search rules in
    let says = g.D.HeldText.says c.args.surroundings.now in
    let sent = added_some says (map view c.args.answers.now.items) (view c.in-Some.answer) _ (rw c.in-Some.is at made.1) in
    (made.0, ap (map view) pushed ∙ (map-append view c.args.answers.now.items (c.in-Some.answer ∷ []) ∙ sent))
