use Rattle.std.proofs.Common.{◌<◌, ◌≤◌, ◌+◌, ◌-◌, false, filter, length, length-drop, map, drop, refl, sym, ◌∙◌, arith}
use Rattle.std.proofs.lemmas.Bool.{false≢true}
use Rattle.std.proofs.lemmas.List.{drop_all, length-map, take_all}
use Rattle.ti_source.specs.Reading.{reading_of, item_of, fault_of}
use Rattle.base_meaning.specs.Faults.{is_kept}
use Rattle.base_slots.specs.Settled.{fault_at}
use Rattle.base_slots.specs.Slots.{blocks_of}
use Rattle.base_plan.proofs.ItemLists.{slice_get-map_item, map-drop_item}
use Rattle.base_plan.proofs.ItemFaults.{one_more_item, wrong_item, sound_more, uses_sound, found}
use Rattle.base_plan.proofs.faults.add_item_faults.Goals as goal
use Rattle.base_plan.proofs.faults.add_item_faults.Goals.{then-branch, else-branch}

pub add_item_fault-requires : goal.add_item_fault-requires
add_item_fault-requires g c =
    let items = c.args.block.now.items.items in
    let within : c.loop-index.index < length items = rw c.deref-item-items.ensures.value at c.loop-index-test.true in
    let here = rw c.deref-item-items.ensures.value at c.item-item.is in (
      c.requires.0,
      record {
        block = reading_of c.args.block.now;
        stands = c.requires.1;
        item = item_of c.item-item.result;
        places = slice_get-map_item item_of items c.loop-index.index c.item-item.result within here;
        is = refl;
      },
    )

pub loop-index-preserved : goal.loop-index-preserved
loop-index-preserved g c =
    let bs = blocks_of c.args.known.now.slots.now in
    let block = reading_of c.args.block.now in
    let items = c.args.block.now.items.items in
    let faults = c.args.block.now.faults.items in
    let within : c.loop-index.index < length items = rw c.deref-item-items.ensures.value at c.loop-index-test.true in
    let here = rw c.deref-item-items.ensures.value at c.item-item.is in
    let stands = slice_get-map_item item_of items c.loop-index.index c.item-item.result within here in
    let before = rw c.deref.ensures.value at c.in_ok-next.ensures in
    record {
      added = one_more_item bs g.at (item_of c.item-item.result) (map item_of (drop (c.loop-index.index + 1) items))
          (filter (is_kept false) (map fault_of (drop c.loop-index.next faults))) (filter (is_kept false) (map fault_of (drop c.in_ok-next.next faults)))
          (map (fault_at g.at) c.loop-index.faults.items) (map (fault_at g.at) c.add_before.new.faults.items)
          (map (fault_at g.at) c.add_item_fault.new.faults.items) _
          (rw (map-drop_item item_of items c.loop-index.index c.item-item.result within here) at c.loop-index.invariant.added)
          before.added c.in_ok-add_item_fault.ensures.added before.rest;
      within = before.within;
      wrong = elim c.if-branch.branch [
        | then-branch w ↦ λ _. wrong_item bs g.at c.loop-index.index block (item_of c.item-item.result) c.in_ok-add_item_fault.field-0 stands
            c.in_ok-add_item_fault.ensures.found w.if-branch.true
        | else-branch w ↦ λ e. c.loop-index.invariant.wrong (sym w.is_wrong-is ∙ e)
      ];
      sound = elim c.if-branch.branch [
        | then-branch w ↦ λ e. (let f = sym w.is_wrong-is ∙ e in cc)
        | else-branch w ↦ λ e. sound_more bs g.at block.items c.loop-index.index (item_of c.item-item.result) c.in_ok-add_item_fault.field-0
            (c.loop-index.invariant.sound (sym w.is_wrong-is ∙ e)) stands c.in_ok-add_item_fault.ensures.found w.if-branch.false
      ];
    }

pub returns-clause-found : goal.returns-clause-found
returns-clause-found g c =
    let block = reading_of c.args.block.now in
    let past : length c.args.block.now.items.items ≤ c.loop-index.index = rw c.deref-item-items.ensures.value at c.loop-index-test.false in
    let all : length block.items ≤ c.loop-index.index = rw (length-map c.args.block.now.items.items item_of) past in
    found c.loop-index.is_wrong _ _ c.loop-index.invariant.wrong
    (λ e. uses_sound (blocks_of c.args.known.now.slots.now) g.at block c.loop-index.index c.requires.1 all (c.loop-index.invariant.sound e))

pub loop-index-init : goal.loop-index-init
loop-index-init g c = record {
  added = refl;
  within = omega arith;
  wrong = λ e. absurd (false≢true e);
  sound = λ e k item l. absurd (omega arith);
}

pub returns-clause-added : goal.returns-clause-added
returns-clause-added g c =
    let items = c.args.block.now.items.items in
    let past : length items ≤ c.loop-index.index = rw c.deref-item-items.ensures.value at c.loop-index-test.false in
    let faults = c.args.block.now.faults.items in
    let next = c.loop-index.next in
    let rest : length (drop next faults) ≤ length faults - next = omega (arith, length-drop next faults) in
    let new = rw (c.deref-2.ensures.value, take_all (length faults - next) (drop next faults) rest) at c.in_ok-add_locals.ensures in
    new ∙ (rw (drop_all c.loop-index.index items past) at c.loop-index.invariant.added)
