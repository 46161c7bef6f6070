use Rattle.std.proofs.Common.{List, map, take, subst, ◌∙◌}
use Rattle.std.proofs.lemmas.List.{take_all}
use Rattle.ti_source.specs.declared.parsing.Rule.TheVariants.{Leftmost}
use Rattle.ti_text.proofs.Lists.{map-take_item}
use Rattle.user_items.specs.declared.reading.UserItem.{UserItem}
use Rattle.user_items.specs.Reading.{user_item_of}
use Rattle.user_values.specs.Tables.{said_at}
use Rattle.user_values.specs.inside.Settling.{IsTableOfItems}
use Rattle.user_values.proofs.Making.{item_at_place, leftmost, table_of_nothing, table_of_one_more}
use Rattle.user_values.proofs.values.leftmost_table.Goals as goal

pub loop-item-init : goal.loop-item-init
loop-item-init c = table_of_nothing Leftmost c.args.database.now.texts (said_at c.new-table.result) c.new-table.ensures

pub add_item-requires : goal.add_item-requires
add_item-requires c = λ name said.
    let items = c.deref-item-items.result.now in
    let owners = rw (← c.deref-item-items.ensures.value) at c.requires in
    owners c.loop-item.item-index (user_item_of c.item-item.result) name
    (item_at_place items c.loop-item.item-index c.item-item.result c.loop-item-test.true c.item-item.is) said

pub loop-item-preserved : goal.loop-item-preserved
loop-item-preserved c =
    let items = c.deref-item-items.result.now in
    rw (map-take_item user_item_of items c.loop-item.item-index c.item-item.result c.loop-item-test.true c.item-item.is)
    (table_of_one_more Leftmost c.args.database.now.texts (map user_item_of (take c.loop-item.item-index items)) (user_item_of c.item-item.result)
    (said_at c.loop-item.table) (said_at c.add_item.new.table) c.loop-item.invariant c.in_ok-add_item.ensures)

pub returns : goal.returns
returns c =
    leftmost c.args.database.now.texts (map user_item_of c.args.read.now.items.items) (said_at c.loop-item.table)
    (subst (λ (xs : List UserItem). IsTableOfItems Leftmost c.args.database.now.texts (map user_item_of xs) (said_at c.loop-item.table))
    (take_all c.loop-item.item-index c.deref-item-items.result.now c.loop-item-test.false ∙ c.deref-item-items.ensures.value) c.loop-item.invariant)
