use Rattle.user_listing.proofs.Profile.{listings-same, relatives-same, comparisons-same}
use Rattle.user_listing.proofs.laws.without_user_defined_as_the_profile.Goals as goal

pub returns-clause-listings : goal.returns-clause-listings
returns-clause-listings c = listings-same

pub returns-clause-relatives : goal.returns-clause-relatives
returns-clause-relatives c = relatives-same

pub returns-clause-comparisons : goal.returns-clause-comparisons
returns-clause-comparisons c = comparisons-same
