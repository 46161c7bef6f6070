use Rattle.std.proofs.Common.{◌≡◌, ◌<◌, ◌≤◌, length, refl, sym, ◌∙◌}
use Rattle.std.proofs.lemmas.List.{take_all}
use Rattle.ti_source.specs.Reading.{reading_of, item_of}
use Rattle.ti_layout.specs.Values.{contents}
use Rattle.base_meaning.specs.Usable.{SetsWell}
use Rattle.base_meaning.proofs.MentionMerging.{table_of_nothing}
use Rattle.base_slots.specs.Slots.{blocks_of}
use Rattle.base_plan.proofs.ItemLists.{All-map_item, slice_get-map_item}
use Rattle.base_plan.proofs.RuledItems.{use_more, use_same}
use Rattle.base_plan.proofs.Places.{usable_at}
use Rattle.base_plan.proofs.tables.used_mentions.Goals.{then-is_use+in_ok-say, else-is_use}
use Rattle.base_plan.proofs.tables.used_mentions.Goals as goal

pub loop-index-init : goal.loop-index-init
loop-index-init g c = table_of_nothing (blocks_of c.args.known.now.slots.now) (contents c.in_ok-used.used) c.in_ok-used.ensures

pub say-requires : goal.say-requires
say-requires g c =
    let items = c.args.block.now.items.items in
    let within : c.loop-index.index < length items = rw c.deref-item-items.ensures.value at c.loop-index-test.true in
    let here = rw c.deref-item-items.ensures.value at c.item-item.is in
    let usable =
    usable_at c.args.known.now.slots.now c.args.known.now.dependents.now c.requires.0.known.found g.at (reading_of c.args.block.now) c.requires.1.0 in (
      c.requires.0,
      (
        record {
          block = reading_of c.args.block.now;
          stands = c.requires.1.0;
          item = item_of c.item-item.result;
          places = slice_get-map_item item_of items c.loop-index.index c.item-item.result within here;
          is = refl;
        },
        (All-map_item (λ i. SetsWell i.said) item_of items c.loop-index.index c.item-item.result within here usable.sets, c.requires.1.1),
      ),
    )

pub loop-index-preserved : goal.loop-index-preserved
loop-index-preserved g c =
    let bs = blocks_of c.args.known.now.slots.now in
    let items = c.args.block.now.items.items in
    let within : c.loop-index.index < length items = rw c.deref-item-items.ensures.value at c.loop-index-test.true in
    let here = rw c.deref-item-items.ensures.value at c.item-item.is in
    elim c.if-is_use.branch [
      | then-is_use+in_ok-say w ↦
          rw w.used-is
          (use_more bs items c.loop-index.index c.item-item.result within here (contents c.loop-index.used) (contents w.say.new.mentions)
          (sym c.is_use.ensures ∙ w.if-is_use.true) c.loop-index.invariant w.in_ok-say.ensures)
      | else-is_use w ↦
          rw w.used-is
          (use_same bs items c.loop-index.index c.item-item.result within here (contents c.loop-index.used) (sym c.is_use.ensures ∙ w.if-is_use.false)
          c.loop-index.invariant)
    ]

pub returns : goal.returns
returns g c =
    let past : length c.args.block.now.items.items ≤ c.loop-index.index = rw c.deref-item-items.ensures.value at c.loop-index-test.false in
    rw (take_all c.loop-index.index c.args.block.now.items.items past) at c.loop-index.invariant
