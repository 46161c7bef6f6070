use Rattle.source_spans.proofs.Ordinals.{ordinals_of_items, ordinals_of_touched, sayings_are_read, seen_are_read}
use Rattle.source_spans.proofs.touching.ordinals_are_read.Goals as goal

pub returns-clause-seen : goal.returns-clause-seen
returns-clause-seen c = seen_are_read

pub returns-clause-items : goal.returns-clause-items
returns-clause-items c = ordinals_of_items

pub returns-clause-sayings : goal.returns-clause-sayings
returns-clause-sayings c = sayings_are_read

pub returns-clause-touched : goal.returns-clause-touched
returns-clause-touched c = ordinals_of_touched
