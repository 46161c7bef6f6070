use Rattle.std.proofs.Common.{◌<◌, ◌≤◌, map, take, length, refl}
use Rattle.std.proofs.lemmas.List.{take_all}
use Rattle.std.proofs.lemmas.Result.{IfOk-weaker}
use Rattle.ti_source.specs.Reading.{reading_of, item_of}
use Rattle.ti_layout.specs.Values.{contents}
use Rattle.base_meaning.specs.Usable.{SetsWell}
use Rattle.base_meaning.proofs.MentionMerging.{table_of_block, table_of_nothing, table_of_one_more}
use Rattle.base_slots.specs.Slots.{blocks_of}
use Rattle.base_plan.proofs.ItemLists.{All-map_item, map-take_item, slice_get-map_item}
use Rattle.base_plan.proofs.BlockValues.{same_table}
use Rattle.base_plan.proofs.Places.{usable_at}
use Rattle.base_plan.proofs.tables.leftmost_table.Goals as goal

pub say-requires : goal.say-requires
say-requires g c =
    let items = c.args.block.now.items.items in
    let within : c.loop-index.index < length items = rw c.deref-item-items.ensures.value at c.loop-index-test.true in
    let here = rw c.deref-item-items.ensures.value at c.item-item.is in
    let usable =
    usable_at c.args.known.now.slots.now c.args.known.now.dependents.now c.requires.0.known.found g.at (reading_of c.args.block.now) c.requires.1.0 in (
      c.requires.0,
      (
        record {
          block = reading_of c.args.block.now;
          stands = c.requires.1.0;
          item = item_of c.item-item.result;
          places = slice_get-map_item item_of items c.loop-index.index c.item-item.result within here;
          is = refl;
        },
        (
          All-map_item (λ i. SetsWell i.said) item_of items c.loop-index.index c.item-item.result within here usable.sets,
          c.requires.1.1.1.0,
        ),
      ),
    )

pub loop-index-preserved : goal.loop-index-preserved
loop-index-preserved g c =
    let items = c.args.block.now.items.items in
    let within : c.loop-index.index < length items = rw c.deref-item-items.ensures.value at c.loop-index-test.true in
    let here = rw c.deref-item-items.ensures.value at c.item-item.is in
    rw (map-take_item item_of items c.loop-index.index c.item-item.result within here)
    (table_of_one_more (blocks_of c.args.known.now.slots.now) (map item_of (take c.loop-index.index items)) (item_of c.item-item.result)
    (contents c.loop-index.mentions) (contents c.say.new.mentions)
    c.loop-index.invariant c.in_ok-say.ensures)

pub returns : goal.returns
returns g c =
    let past : length c.args.block.now.items.items ≤ c.loop-index.index = rw c.deref-item-items.ensures.value at c.loop-index-test.false in
    let items = rw (take_all c.loop-index.index c.args.block.now.items.items past) at c.loop-index.invariant in
    let whole =
    table_of_block (blocks_of c.args.known.now.slots.now) (reading_of c.args.block.now) (contents c.loop-index.mentions) c.requires.1.1.1.1 c.requires.1.1.0 items in
    IfOk-weaker c.into_table.result _ _ (λ table same. same_table (blocks_of c.args.known.now.slots.now) (reading_of c.args.block.now)
    (contents c.loop-index.mentions) (contents table) same whole) c.into_table.ensures

pub loop-index-init : goal.loop-index-init
loop-index-init g c = table_of_nothing (blocks_of c.args.known.now.slots.now) (contents c.in_ok-mentions.mentions) c.in_ok-mentions.ensures
