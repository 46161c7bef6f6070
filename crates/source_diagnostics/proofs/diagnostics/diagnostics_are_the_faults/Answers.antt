use Rattle.source_diagnostics.proofs.PublishedFaults.{published}
use Rattle.source_diagnostics.proofs.diagnostics.diagnostics_are_the_faults.Goals as goal

pub returns : goal.returns
returns c = published
