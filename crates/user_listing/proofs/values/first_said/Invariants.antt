-- none of the entries before has the name
use Rattle.std.proofs.Common.{◌≡◌, drop}
use Rattle.user_listing.specs.Entries.{all_seen}
use Rattle.user_listing.specs.RelativeSource.{first_said}
use Rattle.user_listing.proofs.values.first_said.Given as goal

abbrev pub invariant-loop-other : goal.invariant-loop-other
invariant-loop-other l = first_said (all_seen l.others) l.name ≡ first_said (all_seen (drop l.other-index l.others)) l.name
