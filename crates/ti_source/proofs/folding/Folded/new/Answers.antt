use Rattle.ti_source.proofs.FoldLemmas.{length-folded}
use Rattle.ti_source.proofs.folding.Folded.new.Goals as goal

pub returns-clause-len : goal.returns-clause-len
returns-clause-len c = length-folded c.args.block.now
