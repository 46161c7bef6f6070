use Rattle.lsp_messages.proofs.Decoding.{Repairs}
use Rattle.lsp_messages.proofs.bodies.repaired.Given as goal

abbrev pub invariant-loop-at : goal.invariant-loop-at
invariant-loop-at l = Repairs l.text l.at l.kept l.exchanged l.all.items
