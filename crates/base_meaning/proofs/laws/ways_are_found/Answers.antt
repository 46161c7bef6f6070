use Rattle.base_meaning.proofs.LawProofs.{found_ways}
use Rattle.base_meaning.proofs.laws.ways_are_found.Goals as goal

pub returns : goal.returns
returns c = found_ways
