use Rattle.std.proofs.lemmas.Result.{IfOk-weaker}
use Rattle.base_dependents.proofs.dependents.find_all.Goals as goal

pub returns-clause-distinct : goal.returns-clause-distinct
returns-clause-distinct c = IfOk-weaker c.blocks_listed.result _ _ (λ d graph. c.in_ok-listed.ensures.distinct) c.blocks_listed.ensures.graph
