use Rattle.source_places.proofs.Places.{inverse}
use Rattle.source_places.proofs.position.positions_are_inverse.Goals as goal

pub returns : goal.returns
returns c = inverse
