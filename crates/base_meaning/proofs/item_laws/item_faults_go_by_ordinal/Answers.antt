use Rattle.base_meaning.proofs.ItemLawProofs.{by_ordinal}
use Rattle.base_meaning.proofs.item_laws.item_faults_go_by_ordinal.Goals as goal

pub returns : goal.returns
returns c = by_ordinal
