use Rattle.std.proofs.Common.{not, option_map, refl}
use Rattle.serde_json.specs.View.{view}
use Rattle.lsp_server.proofs.Publishing.{two_sent}
use Rattle.lsp_server.specs.States.{state_of}
use Rattle.lsp_server.specs.Steps.{due_if, taken_value}
use Rattle.lsp_server.proofs.server.Server.reply.Goals as goal

pub returns : goal.returns
returns g c =
    let says = g.D.HeldText.says c.args.surroundings.now in
    let after = taken_value g.D.HeldText.place_in (state_of g.D.HeldText.text_of c.args.self.now) (option_map (λ d. view d.now) c.args.value) in
    let made = c.in_ok-answers.ensures in
    let settled = rw made.0 at c.in_ok-publish_if.ensures in
    (settled.state, two_sent says after.1 (due_if (not c.args.waits) after.0) _ _ _ made.1 refl settled.answers)
