use Rattle.std.proofs.Common.{refl}
use Rattle.lsp_server.proofs.requests.answer_fresh.Goals as goal

pub returns-in_ok-ready_value-in-Initialize : goal.returns-in_ok-ready_value-in-Initialize
returns-in_ok-ready_value-in-Initialize c says = rw c.in-Initialize.is (refl, c.in_ok-ready_value-in-Initialize.ensures says)
