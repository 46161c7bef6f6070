use Rattle.source_document.proofs.LocalCuts.{cutting_local}
use Rattle.source_document.proofs.recutting.cutting_is_local.Goals as goal

pub returns : goal.returns
returns c = cutting_local
