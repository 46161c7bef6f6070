use Rattle.std.proofs.Common.{rules, ap, ◌∙◌, ◌+◌, ◌<◌, ◌≤◌, length, map, take, arith}
use Rattle.std.specs.List.{flat_map}
use Rattle.std.proofs.lemmas.List.{take_all}
use Rattle.std.proofs.lemmas.Grind.{common_steps}
use Rattle.base_meaning.specs.Report.{report_line}
use Rattle.base_meaning.specs.Usable.{IsPlaced}
use Rattle.base_meaning.specs.Faults.{fault_seen}
use Rattle.base_slots.specs.Slots.{slot_texts}
use Rattle.base_plan.proofs.ItemLists.{All-map_item, map-take_item}
use Rattle.ti_base.proofs.Counting.{start_read, length_starts, one_more_line}
use Rattle.ti_base.proofs.report.write_report.Goals as goal

pub index-requires : goal.index-requires
index-requires c =
    let within : c.loop-fault.fault-index < length c.args.faults.now = omega arith in
    let placed = All-map_item (IsPlaced (length (slot_texts c.args.slots.now))) fault_seen c.args.faults.now c.loop-fault.fault-index c.fault-item.result
    within c.fault-item.is c.requires.placed in
    let starts = length_starts (slot_texts c.args.slots.now) c.in_ok-starts.starts.items (length (slot_texts c.args.slots.now)) c.in_ok-starts.ensures.starts in
    omega (arith, placed.0, starts, c.in_ok-starts.starts.ok.0)

pub overflow_add-number : goal.overflow_add-number
overflow_add-number c =
    let within : c.loop-fault.fault-index < length c.args.faults.now = omega arith in
    let placed = All-map_item (IsPlaced (length (slot_texts c.args.slots.now))) fault_seen c.args.faults.now c.loop-fault.fault-index c.fault-item.result
    within c.fault-item.is c.requires.placed in
    let starts = length_starts (slot_texts c.args.slots.now) c.in_ok-starts.starts.items (length (slot_texts c.args.slots.now)) c.in_ok-starts.ensures.starts in
    let there : c.fault-item.result.block < length c.in_ok-starts.starts.items = omega (arith, placed.0, starts) in
    let small : c.index.result.now ≤ 68719476736 =
    rw (← c.index.ensures) at (c.in_ok-starts.ensures.small c.fault-item.result.block c.index.result.now there) in
    let first = c.requires.first in
    search rules

pub overflow_add-number-in-loop-fault : goal.overflow_add-number-in-loop-fault
overflow_add-number-in-loop-fault c =
    let within : c.loop-fault.fault-index < length c.args.faults.now = omega arith in
    let placed = All-map_item (IsPlaced (length (slot_texts c.args.slots.now))) fault_seen c.args.faults.now c.loop-fault.fault-index c.fault-item.result
    within c.fault-item.is c.requires.placed in
    let starts = length_starts (slot_texts c.args.slots.now) c.in_ok-starts.starts.items (length (slot_texts c.args.slots.now)) c.in_ok-starts.ensures.starts in
    let there : c.fault-item.result.block < length c.in_ok-starts.starts.items = omega (arith, placed.0, starts) in
    let small : c.index.result.now ≤ 68719476736 =
    rw (← c.index.ensures) at (c.in_ok-starts.ensures.small c.fault-item.result.block c.index.result.now there) in
    let line : c.fault-item.result.line ≤ 1048577 = placed.1.1 in
    let first = c.requires.first in
    search rules

pub overflow_sub-number : goal.overflow_sub-number
overflow_sub-number c =
    let within : c.loop-fault.fault-index < length c.args.faults.now = omega arith in
    let placed = All-map_item (IsPlaced (length (slot_texts c.args.slots.now))) fault_seen c.args.faults.now c.loop-fault.fault-index c.fault-item.result
    within c.fault-item.is c.requires.placed in
    omega (arith, placed.1.0)

pub loop-fault-preserved : goal.loop-fault-preserved
loop-fault-preserved c =
    let texts = slot_texts c.args.slots.now in
    let within : c.loop-fault.fault-index < length c.args.faults.now = omega arith in
    let placed = All-map_item (IsPlaced (length (slot_texts c.args.slots.now))) fault_seen c.args.faults.now c.loop-fault.fault-index c.fault-item.result
    within c.fault-item.is c.requires.placed in
    let start = start_read texts c.in_ok-starts.starts.items (length (slot_texts c.args.slots.now)) c.fault-item.result.block c.index.result.now
    c.in_ok-starts.ensures.starts placed.0 c.index.ensures in
    one_more_line texts c.args.first_line (map fault_seen (take c.loop-fault.fault-index c.args.faults.now))
    (map fault_seen (take (c.loop-fault.fault-index + 1) c.args.faults.now)) (fault_seen c.fault-item.result) c.index.result.now c.loop-fault.out.items
    c.write_fault.new.out.items
    c.loop-fault.invariant (map-take_item fault_seen c.args.faults.now c.loop-fault.fault-index c.fault-item.result within c.fault-item.is) start
    c.in_ok-write_fault.ensures

pub returns-then-is_empty : goal.returns-then-is_empty
returns-then-is_empty c = grind (arith, common_steps)

pub loop-fault-init : goal.loop-fault-init
loop-fault-init c = c.new-out.ensures.items

pub returns : goal.returns
returns c =
    let lines = flat_map (report_line (slot_texts c.args.slots.now) c.args.first_line) in
    c.loop-fault.invariant ∙ ap (λ faults. lines (map fault_seen faults)) (take_all c.loop-fault.fault-index c.args.faults.now (omega arith))
