use Rattle.std.proofs.Common.{map, take}
use Rattle.ti_source.specs.declared.parsing.Rule.TheVariants.{OwnFirst}
use Rattle.user_items.specs.Reading.{user_item_of}
use Rattle.user_values.specs.Expansion.{use_items}
use Rattle.user_values.specs.Tables.{said_at}
use Rattle.user_values.specs.inside.Settling.{IsTableOfItems}
use Rattle.user_values.proofs.values.used_table.Given as goal

abbrev pub ghost-add_item : goal.ghost-add_item
ghost-add_item a = OwnFirst

-- the uses among the items so far were added
abbrev pub invariant-loop-item : goal.invariant-loop-item
invariant-loop-item l = IsTableOfItems OwnFirst l.database.texts (use_items (map user_item_of (take l.item-index l.item-items))) (said_at l.used)
