use Rattle.source_blocks.proofs.CausesFound.{missing_entries_have_a_cause}
use Rattle.source_blocks.proofs.causes.missing_entries_have_a_cause.Goals as goal

pub returns : goal.returns
returns c = missing_entries_have_a_cause c.unresolved_blocks_have_a_cause.ensures
