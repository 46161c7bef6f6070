use Rattle.ti_layout.proofs.OneReading.{one_entry, one_refusal, not_both}
use Rattle.ti_layout.proofs.laws.one_reading.Goals as goal

pub returns : goal.returns
returns c = (one_entry, one_refusal, not_both)
