use Rattle.std.proofs.Common.{◌≡◌, ◌++◌, drop}
use Rattle.ti_list.specs.RelativeSource.{use_lines}
use Rattle.user_listing.specs.Entries.{all_seen, entries_in}
use Rattle.user_listing.proofs.listing.push_uses.Given as goal

abbrev pub invariant-loop-other : goal.invariant-loop-other
invariant-loop-other l =
    l.out.items ++ use_lines (entries_in (all_seen (drop l.other-index l.others))) ≡ l.initial.out.items ++ use_lines (entries_in (all_seen l.others))
