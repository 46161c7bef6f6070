-- none of the entries before has the capability
use Rattle.std.proofs.Common.{◌≡◌, drop}
use Rattle.ti_list.specs.RelativeSource.{first_of}
use Rattle.user_listing.specs.Entries.{all_seen, entries_in}
use Rattle.user_listing.proofs.values.first_of.Given as goal

abbrev pub invariant-loop-other : goal.invariant-loop-other
invariant-loop-other l = first_of (entries_in (all_seen l.others)) l.cap ≡ first_of (entries_in (all_seen (drop l.other-index l.others))) l.cap
