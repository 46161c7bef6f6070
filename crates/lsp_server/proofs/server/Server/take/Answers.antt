use Rattle.std.proofs.Common.{map, refl, ap}
use Rattle.std.specs.Option.{option_to_list}
use Rattle.lsp_messages.specs.Views.{message_view}
use Rattle.serde_json.specs.View.{view}
use Rattle.lsp_server.proofs.Publishing.{two_sent}
use Rattle.lsp_server.specs.States.{state_of}
use Rattle.lsp_server.specs.Steps.{due_if, publishes_first, published_if, step}
use Rattle.lsp_server.proofs.server.Server.take.Goals as goal

pub returns : goal.returns
returns g c =
    let says = g.D.HeldText.says c.args.surroundings.now in
    let start = state_of g.D.HeldText.text_of c.args.self.now in
    let message = message_view c.args.message.now in
    let first = publishes_first message in
    let before = rw c.publishes_first-first.ensures at c.in_ok-publish_if.ensures in
    let added = rw before.state at c.in_ok-push_answer.ensures in
    let none = ap (map view) c.new-answers.ensures.items in
    let sent = rw none at before.answers in
    (added.0, two_sent says (due_if first start) (option_to_list (step g.D.HeldText.place_in (published_if first start) message).1) _ _ _ sent refl added.1)
