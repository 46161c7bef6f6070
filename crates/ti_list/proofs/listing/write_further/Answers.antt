-- if the item has room, a space is in the place of the tab before it
use Rattle.std.proofs.Common.{arith}
use Rattle.std.proofs.lemmas.Grind.{common_steps}
use Rattle.ti_list.proofs.Spaces.{spaced}
use Rattle.ti_list.proofs.listing.write_further.Goals as goal

pub returns-then-size-saturating_sub-clause-fits : goal.returns-then-size-saturating_sub-clause-fits
returns-then-size-saturating_sub-clause-fits c = grind (arith, common_steps, spaced)
