use Rattle.std.proofs.Common.{List, ap₂}
use Rattle.lsp_server.specs.Steps.{Open}
use Rattle.lsp_server.specs.declared.phase.Phase.{Phase}
use Rattle.lsp_server.proofs.server.Server.answer.Goals as goal

pub returns-in_ok-answer-in-Notification : goal.returns-in_ok-answer-in-Notification
returns-in_ok-answer-in-Notification g c =
    let made = c.in_ok-answer-in-Notification.ensures (g.D.HeldText.says c.args.surroundings.now) in
    rw c.in-Notification.is
    (ap₂ (λ (phase : Phase) (documents : List Open). record { phase = phase; documents = documents }) c.phase_told-self.ensures made.0, made.1)
