use Rattle.source_document.proofs.SmallExchanges.{one_changed, one_inserted, one_removed, same_take_none}
use Rattle.source_document.proofs.exchanging.one_change_is_one_edit.Goals as goal

pub returns-clause-same : goal.returns-clause-same
returns-clause-same c = same_take_none

pub returns-clause-changed : goal.returns-clause-changed
returns-clause-changed c = one_changed

pub returns-clause-inserted : goal.returns-clause-inserted
returns-clause-inserted c = one_inserted

pub returns-clause-removed : goal.returns-clause-removed
returns-clause-removed c = one_removed
