use Rattle.std.proofs.Common.{◌≡◌, drop, map}
use Rattle.user_items.specs.Reading.{user_item_of}
use Rattle.source_features.specs.UserMeanings.{user_said_at}
use Rattle.source_features.proofs.user_meanings.user_said_at.Given as goal

abbrev pub invariant-loop-item : goal.invariant-loop-item
invariant-loop-item l = user_said_at l.ordinal (map user_item_of (drop l.item-index l.items)) ≡ user_said_at l.ordinal (map user_item_of l.items)
