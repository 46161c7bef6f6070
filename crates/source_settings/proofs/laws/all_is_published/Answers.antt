use Rattle.source_settings.proofs.Publishing.{all}
use Rattle.source_settings.proofs.laws.all_is_published.Goals as goal

pub returns : goal.returns
returns c = all
