use Rattle.std.proofs.Common.{◌-◌, length, map, drop}
use Rattle.ti_source.specs.declared.parsing.Rule.TheVariants.{OwnFirst}
use Rattle.user_items.specs.Reading.{user_item_of}
use Rattle.user_values.specs.Expansion.{own_items}
use Rattle.user_values.specs.Tables.{said_at}
use Rattle.user_values.specs.inside.Settling.{IsTableOfItems}
use Rattle.user_values.proofs.values.own_table.Given as goal

abbrev pub ghost-add_item : goal.ghost-add_item
ghost-add_item a = OwnFirst

-- the block's own of the last items were added, the last first
abbrev pub invariant-loop-done : goal.invariant-loop-done
invariant-loop-done l =
    IsTableOfItems OwnFirst l.database.texts (own_items (map user_item_of (drop (length l.read.items.items - l.done) l.read.items.items))) (said_at l.own)
