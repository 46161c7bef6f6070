use Rattle.std.proofs.Common.{List, map, sym, subst, ◌∙◌}
use Rattle.std.proofs.lemmas.List.{take_all}
use Rattle.ti_source.specs.declared.parsing.Rule.TheVariants.{OwnFirst}
use Rattle.user_items.specs.declared.reading.UserItem.{UserItem}
use Rattle.user_items.specs.Reading.{user_item_of}
use Rattle.user_values.specs.Expansion.{use_items}
use Rattle.user_values.specs.Tables.{said_at}
use Rattle.user_values.specs.inside.Settling.{IsTableOfItems}
use Rattle.user_values.proofs.Making.{item_at_place, table_of_nothing}
use Rattle.user_values.proofs.RuledItems.{use_more, use_same}
use Rattle.user_values.proofs.values.used_table.Goals.{then-is_use+in_ok-add_item, else-is_use}
use Rattle.user_values.proofs.values.used_table.Goals as goal

pub loop-item-init : goal.loop-item-init
loop-item-init c = table_of_nothing OwnFirst c.args.database.now.texts (said_at c.new-used.result) c.new-used.ensures

pub add_item-requires : goal.add_item-requires
add_item-requires c = λ name said.
    let items = c.deref-item-items.result.now in
    let owners = rw (← c.deref-item-items.ensures.value) at c.requires in
    owners c.loop-item.item-index (user_item_of c.item-item.result) name
    (item_at_place items c.loop-item.item-index c.item-item.result c.loop-item-test.true c.item-item.is) said

pub loop-item-preserved : goal.loop-item-preserved
loop-item-preserved c =
    let db = c.args.database.now.texts in
    let items = c.deref-item-items.result.now in
    elim c.if-is_use.branch [
      | then-is_use+in_ok-add_item w ↦
          rw w.used-is
          (use_more OwnFirst db items c.loop-item.item-index c.item-item.result c.loop-item-test.true c.item-item.is (said_at c.loop-item.used)
          (said_at w.add_item.new.table) (sym c.is_use.ensures ∙ w.if-is_use.true) c.loop-item.invariant w.in_ok-add_item.ensures)
      | else-is_use w ↦
          rw w.used-is
          (use_same OwnFirst db items c.loop-item.item-index c.item-item.result c.loop-item-test.true c.item-item.is (said_at c.loop-item.used)
          (sym c.is_use.ensures ∙ w.if-is_use.false) c.loop-item.invariant)
    ]

pub returns : goal.returns
returns c =
    subst (λ (xs : List UserItem). IsTableOfItems OwnFirst c.args.database.now.texts (use_items (map user_item_of xs)) (said_at c.loop-item.used))
    (take_all c.loop-item.item-index c.deref-item-items.result.now c.loop-item-test.false ∙ c.deref-item-items.ensures.value) c.loop-item.invariant
