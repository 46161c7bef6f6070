use Rattle.std.proofs.Common.{◌≡◌, ◌≤◌, length, map, take}
use Rattle.user_items.specs.Reading.{user_item_of}
use Rattle.user_values.specs.Limit.{names_of}
use Rattle.user_kept.proofs.found.count_says.Given as goal

abbrev pub invariant-loop-item : goal.invariant-loop-item
invariant-loop-item l = record {
  counted : l.count ≡ length (names_of (map user_item_of (take l.item-index l.items)));
  few : l.count ≤ l.item-index;
}
