use Rattle.base_meaning.proofs.UseLawProofs.{causes}
use Rattle.base_meaning.proofs.use_laws.unresolved_blocks_have_a_cause.Goals as goal

pub returns : goal.returns
returns c = causes
