use Rattle.source_diagnostics.proofs.PublishedFaults.{published_extended}
use Rattle.source_diagnostics.proofs.diagnostics.user_defined_diagnostics_are_the_faults.Goals as goal

pub returns : goal.returns
returns c = published_extended
