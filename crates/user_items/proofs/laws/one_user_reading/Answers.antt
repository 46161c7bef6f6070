use Rattle.user_items.proofs.Readings.{one_reading}
use Rattle.user_items.proofs.laws.one_user_reading.Goals as goal

pub returns : goal.returns
returns c = one_reading
