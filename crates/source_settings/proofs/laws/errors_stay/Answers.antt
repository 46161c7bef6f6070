use Rattle.source_settings.proofs.Publishing.{errors}
use Rattle.source_settings.proofs.laws.errors_stay.Goals as goal

pub returns : goal.returns
returns c = errors
