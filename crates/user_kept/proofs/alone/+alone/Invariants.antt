use Rattle.std.proofs.Common.{◌+◌, ◌*◌, map, take}
use Rattle.user_items.specs.Reading.{user_item_of}
use Rattle.user_values.specs.Tables.{said_at}
use Rattle.user_kept.proofs.Adding.{IsAdded}
use Rattle.user_kept.proofs.alone.+alone.Given as goal

abbrev pub decreases-add_block : goal.decreases-add_block
decreases-add_block l = 2 * l.depth

abbrev pub decreases-add_item : goal.decreases-add_item
decreases-add_item l = 2 * l.depth + 1

abbrev pub invariant-add_block-loop-item : goal.invariant-add_block-loop-item
invariant-add_block-loop-item l = IsAdded l.database (map user_item_of (take l.item-index l.item-items)) (said_at l.initial.table) (said_at l.table)
