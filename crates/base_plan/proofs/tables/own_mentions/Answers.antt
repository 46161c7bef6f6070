use Rattle.std.proofs.Common.{◌≡◌, ◌-◌, ◌<◌, [], drop, length, refl, sym, ◌∙◌, arith}
use Rattle.std.proofs.lemmas.List.{drop_all}
use Rattle.ti_source.specs.Reading.{reading_of, item_of}
use Rattle.ti_layout.specs.Values.{contents}
use Rattle.base_meaning.specs.Usable.{SetsWell}
use Rattle.base_meaning.proofs.MentionMerging.{table_of_nothing}
use Rattle.base_slots.specs.Slots.{blocks_of}
use Rattle.base_plan.proofs.ItemLists.{All-map_item, slice_get-map_item}
use Rattle.base_plan.proofs.RuledItems.{own_more, own_same}
use Rattle.base_plan.proofs.Places.{usable_at}
use Rattle.base_plan.proofs.tables.own_mentions.Goals.{then-not-is_use+in_ok-say, else-not-is_use}
use Rattle.base_plan.proofs.tables.own_mentions.Goals as goal

pub loop-done-init : goal.loop-done-init
loop-done-init g c =
    let items = c.args.block.now.items.items in
    let none : drop (length items - 0) items ≡ [] = drop_all (length items - 0) items (omega arith) in
    rw none (table_of_nothing (blocks_of c.args.known.now.slots.now) (contents c.in_ok-own.own) c.in_ok-own.ensures)

pub say-requires : goal.say-requires
say-requires g c =
    let items = c.args.block.now.items.items in
    let index = c.len-count.result - 1 - c.loop-done.done in
    let l = c.loop-done-test.true in
    let n : c.len-count.result ≡ length items = c.len-count.ensures ∙ c.args.block.now.items.ok.0 in
    let within : index < length items = omega arith in
    let usable =
    usable_at c.args.known.now.slots.now c.args.known.now.dependents.now c.requires.0.known.found g.at (reading_of c.args.block.now) c.requires.1.0 in (
      c.requires.0,
      (
        record {
          block = reading_of c.args.block.now;
          stands = c.requires.1.0;
          item = item_of c.index-item.result.now;
          places = slice_get-map_item item_of items index c.index-item.result.now within c.index-item.ensures;
          is = refl;
        },
        (All-map_item (λ i. SetsWell i.said) item_of items index c.index-item.result.now within c.index-item.ensures usable.sets, c.requires.1.1),
      ),
    )

pub loop-done-preserved : goal.loop-done-preserved
loop-done-preserved g c =
    let bs = blocks_of c.args.known.now.slots.now in
    let items = c.args.block.now.items.items in
    let n : c.len-count.result ≡ length items = c.len-count.ensures ∙ c.args.block.now.items.ok.0 in
    let l : c.loop-done.done < length items = rw n at c.loop-done-test.true in
    let here = rw n at c.index-item.ensures in
    elim c.if-not-is_use.branch [
      | then-not-is_use+in_ok-say w ↦
          rw w.own-is
          (own_more bs items c.loop-done.done c.index-item.result.now l here (contents c.loop-done.own) (contents w.say.new.mentions)
          (sym c.is_use.ensures ∙ w.if-not-is_use.true) c.loop-done.invariant w.in_ok-say.ensures)
      | else-not-is_use w ↦
          rw w.own-is
          (own_same bs items c.loop-done.done c.index-item.result.now l here (contents c.loop-done.own) (sym c.is_use.ensures ∙ w.if-not-is_use.false)
          c.loop-done.invariant)
    ]
