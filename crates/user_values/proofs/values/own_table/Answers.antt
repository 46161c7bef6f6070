use Rattle.std.proofs.Common.{◌≡◌, ◌-◌, ◌<◌, [], drop, length, sym, ◌∙◌, arith}
use Rattle.std.proofs.lemmas.List.{drop_all}
use Rattle.ti_source.specs.declared.parsing.Rule.TheVariants.{OwnFirst}
use Rattle.user_items.specs.Reading.{user_item_of}
use Rattle.user_values.specs.Tables.{said_at}
use Rattle.user_values.proofs.Making.{item_at_place, table_of_nothing}
use Rattle.user_values.proofs.RuledItems.{own_more, own_same}
use Rattle.user_values.proofs.values.own_table.Goals.{then-not-is_use+in_ok-add_item, else-not-is_use}
use Rattle.user_values.proofs.values.own_table.Goals as goal

pub loop-done-init : goal.loop-done-init
loop-done-init c =
    let items = c.args.read.now.items.items in
    let none : drop (length items - 0) items ≡ [] = drop_all (length items - 0) items (omega arith) in
    rw none (table_of_nothing OwnFirst c.args.database.now.texts (said_at c.new-own.result) c.new-own.ensures)

pub add_item-requires : goal.add_item-requires
add_item-requires c = λ name said.
    let items = c.args.read.now.items.items in
    let index = c.len-count.result - 1 - c.loop-done.done in
    let l = c.loop-done-test.true in
    let n : c.len-count.result ≡ length items = c.len-count.ensures ∙ c.args.read.now.items.ok.0 in
    let within : index < length items = omega arith in
    c.requires index (user_item_of c.index-item.result.now) name (item_at_place items index c.index-item.result.now within c.index-item.ensures) said

pub loop-done-preserved : goal.loop-done-preserved
loop-done-preserved c =
    let db = c.args.database.now.texts in
    let items = c.args.read.now.items.items in
    let n : c.len-count.result ≡ length items = c.len-count.ensures ∙ c.args.read.now.items.ok.0 in
    let l : c.loop-done.done < length items = rw n at c.loop-done-test.true in
    let here = rw n at c.index-item.ensures in
    elim c.if-not-is_use.branch [
      | then-not-is_use+in_ok-add_item w ↦
          rw w.own-is
          (own_more OwnFirst db items c.loop-done.done c.index-item.result.now l here (said_at c.loop-done.own) (said_at w.add_item.new.table)
          (sym c.is_use.ensures ∙ w.if-not-is_use.true) c.loop-done.invariant w.in_ok-add_item.ensures)
      | else-not-is_use w ↦
          rw w.own-is
          (own_same OwnFirst db items c.loop-done.done c.index-item.result.now l here (said_at c.loop-done.own)
          (sym c.is_use.ensures ∙ w.if-not-is_use.false) c.loop-done.invariant)
    ]

pub returns : goal.returns
returns c =
    let items = c.args.read.now.items.items in
    let n : c.len-count.result ≡ length items = c.len-count.ensures ∙ c.args.read.now.items.ok.0 in
    let past = c.loop-done-test.false in
    let zero : length items - c.loop-done.done ≡ 0 = omega arith in
    rw zero at c.loop-done.invariant
