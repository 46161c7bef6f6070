use Rattle.std.proofs.Common.{◌≡◌, ℕ, ◌+◌, ◌≤◌, ◌++◌, List, map, drop, vec_len, vec_capacity}
use Rattle.ti_layout.specs.View.{entry_seen}
use Rattle.ti_list.specs.inside.Listing.{uses_before}
use Rattle.ti_list.specs.inside.Room.{uses_room}
use Rattle.ti_list.proofs.listing.write_uses.Given as goal

abbrev pub invariant-loop-other : goal.invariant-loop-other
invariant-loop-other l = record {
  done : (rest : List ℕ) → l.out.items ++ uses_before (map (λ o. entry_seen o) (drop l.other-index l.others)) rest ≡ l.initial.out.items
      ++ uses_before (map (λ o. entry_seen o) l.others) rest;
  len : vec_len l.out + uses_room (map (λ o. entry_seen o) (drop l.other-index l.others)) ≤ vec_len l.initial.out + uses_room
      (map (λ o. entry_seen o) l.others);
  capacity : vec_capacity l.initial.out ≤ vec_capacity l.out;
}
