use Rattle.user_listing.proofs.Rising.{names-rise, both-rise}
use Rattle.user_listing.proofs.laws.names_rise.Goals as goal

pub returns-clause-one : goal.returns-clause-one
returns-clause-one c = names-rise

pub returns-clause-both : goal.returns-clause-both
returns-clause-both c = both-rise
