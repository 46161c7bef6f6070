use Rattle.source_places.proofs.Measuring.{places_measured}
use Rattle.source_places.proofs.lines.places_are_measured.Goals as goal

pub returns : goal.returns
returns c = places_measured
