use Rattle.source_spans.proofs.Finding.{faults_found}
use Rattle.source_spans.proofs.faulty.faults_are_found.Goals as goal

pub returns : goal.returns
returns c = faults_found
