use Rattle.source_spans.proofs.Computing.{folded_computed}
use Rattle.source_spans.proofs.OneFolding.{offsets_lead, one_folding}
use Rattle.source_spans.proofs.folding.one_folding_at.Goals as goal

pub returns-clause-one : goal.returns-clause-one
returns-clause-one c = one_folding

pub returns-clause-offsets : goal.returns-clause-offsets
returns-clause-offsets c = offsets_lead

pub returns-clause-computed : goal.returns-clause-computed
returns-clause-computed c = folded_computed
