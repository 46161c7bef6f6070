use Rattle.source_settings.proofs.Publishing.{nothing_else}
use Rattle.source_settings.proofs.laws.nothing_else_is_taken_out.Goals as goal

pub returns : goal.returns
returns c = nothing_else
