use Rattle.user_compiling.proofs.Profile.{plain_sources}
use Rattle.user_compiling.proofs.laws.plain_sources_are_as_in_the_profile.Goals as goal

pub returns : goal.returns
returns c = plain_sources c.warnings_are_of_defining_items.ensures c.item_faults_are_in_order.ensures
