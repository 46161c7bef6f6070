use Rattle.source_remarks.proofs.Ordered.{are_in_order}
use Rattle.source_remarks.proofs.laws.remarks_are_in_order.Goals as goal

pub returns : goal.returns
returns c = are_in_order
