use Rattle.source_spans.proofs.Exchanging.{one_replaced}
use Rattle.source_spans.proofs.Rereading.{new_read, others_read}
use Rattle.source_spans.proofs.replacing.one_item_is_replaced.Goals as goal

pub returns-clause-texts : goal.returns-clause-texts
returns-clause-texts c = one_replaced

pub returns-clause-others : goal.returns-clause-others
returns-clause-others c = others_read

pub returns-clause-new : goal.returns-clause-new
returns-clause-new c = new_read
