-- the relation and the computed form agree
use Rattle.ti_source.proofs.FoldingLaws.{each_is_folded, one_folding}
use Rattle.ti_source.proofs.laws.one_folding.Goals as goal

pub returns-clause-each : goal.returns-clause-each
returns-clause-each c = each_is_folded

pub returns-clause-only : goal.returns-clause-only
returns-clause-only c = one_folding
