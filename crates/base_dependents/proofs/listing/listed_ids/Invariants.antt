use Rattle.std.proofs.Common.{◌≡◌, take}
use Rattle.base_dependents.proofs.listing.listed_ids.Given as goal

abbrev pub invariant-loop-id : goal.invariant-loop-id
invariant-loop-id l = l.found.keys ≡ take l.id-index l.ids
