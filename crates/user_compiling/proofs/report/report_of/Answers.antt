use Rattle.std.proofs.Common.{ap, ◌∙◌, ◌+◌, ◌-◌, ◌<◌, ◌≤◌, ◌≡◌, ◌++◌, length, map, take, arith, subst}
use Rattle.std.specs.List.{flat_map}
use Rattle.std.proofs.lemmas.List.{take_all}
use Rattle.base_meaning.specs.Report.{lines_before}
use Rattle.ti_text.proofs.Lists.{map-take_item}
use Rattle.ti_base.proofs.Counting.{start_read, length_starts}
use Rattle.user_compiling.specs.Faults.{fault_seen, block_of}
use Rattle.user_compiling.specs.Report.{extended_line, IsExtendedPlaced}
use Rattle.user_compiling.specs.inside.Lines.{line_with_number}
use Rattle.user_compiling.proofs.Lines.{All-map_item, placed_block, placed_line, one_more_line}
use Rattle.user_compiling.proofs.report.report_of.Goals as goal

pub index-requires : goal.index-requires
index-requires c =
    let db = c.args.database.now.texts in
    let within : c.loop-fault.fault-index < length c.args.faults.now = omega arith in
    let is_placed = All-map_item (IsExtendedPlaced (length db)) fault_seen c.args.faults.now c.loop-fault.fault-index c.fault-item.result within
    c.fault-item.is c.requires.placed in
    let placed = placed_block (length db) (fault_seen c.fault-item.result) is_placed in
    let lines = placed_line (length db) (fault_seen c.fault-item.result) is_placed in
    let starts = length_starts db c.in_ok-starts.starts.items (length db) c.in_ok-starts.ensures.starts in
    omega (arith, placed, starts, c.in_ok-starts.starts.ok.0, c.block-at.ensures)

pub overflow_add-number : goal.overflow_add-number
overflow_add-number c =
    let db = c.args.database.now.texts in
    let within : c.loop-fault.fault-index < length c.args.faults.now = omega arith in
    let is_placed = All-map_item (IsExtendedPlaced (length db)) fault_seen c.args.faults.now c.loop-fault.fault-index c.fault-item.result within
    c.fault-item.is c.requires.placed in
    let placed = placed_block (length db) (fault_seen c.fault-item.result) is_placed in
    let lines = placed_line (length db) (fault_seen c.fault-item.result) is_placed in
    let starts = length_starts db c.in_ok-starts.starts.items (length db) c.in_ok-starts.ensures.starts in
    let there : c.block-at.result < length c.in_ok-starts.starts.items = omega (arith, placed, starts, c.block-at.ensures) in
    let small : c.index.result.now ≤ 68719476736 = rw (← c.index.ensures) at (c.in_ok-starts.ensures.small c.block-at.result c.index.result.now there) in
    let first = c.requires.first in
    omega (arith, small, first)

pub overflow_add-number-in-loop-fault : goal.overflow_add-number-in-loop-fault
overflow_add-number-in-loop-fault c =
    let db = c.args.database.now.texts in
    let within : c.loop-fault.fault-index < length c.args.faults.now = omega arith in
    let is_placed = All-map_item (IsExtendedPlaced (length db)) fault_seen c.args.faults.now c.loop-fault.fault-index c.fault-item.result within
    c.fault-item.is c.requires.placed in
    let placed = placed_block (length db) (fault_seen c.fault-item.result) is_placed in
    let lines = placed_line (length db) (fault_seen c.fault-item.result) is_placed in
    let starts = length_starts db c.in_ok-starts.starts.items (length db) c.in_ok-starts.ensures.starts in
    let there : c.block-at.result < length c.in_ok-starts.starts.items = omega (arith, placed, starts, c.block-at.ensures) in
    let small : c.index.result.now ≤ 68719476736 = rw (← c.index.ensures) at (c.in_ok-starts.ensures.small c.block-at.result c.index.result.now there) in
    let first = c.requires.first in
    omega (arith, small, first, lines.1, c.line-line.ensures)

pub overflow_sub-number : goal.overflow_sub-number
overflow_sub-number c =
    let db = c.args.database.now.texts in
    let within : c.loop-fault.fault-index < length c.args.faults.now = omega arith in
    let is_placed = All-map_item (IsExtendedPlaced (length db)) fault_seen c.args.faults.now c.loop-fault.fault-index c.fault-item.result within
    c.fault-item.is c.requires.placed in
    let placed = placed_block (length db) (fault_seen c.fault-item.result) is_placed in
    let lines = placed_line (length db) (fault_seen c.fault-item.result) is_placed in
    let starts = length_starts db c.in_ok-starts.starts.items (length db) c.in_ok-starts.ensures.starts in
    omega (arith, lines.0, c.line-line.ensures)

pub loop-fault-preserved : goal.loop-fault-preserved
loop-fault-preserved c =
    let db = c.args.database.now.texts in
    let within : c.loop-fault.fault-index < length c.args.faults.now = omega arith in
    let is_placed = All-map_item (IsExtendedPlaced (length db)) fault_seen c.args.faults.now c.loop-fault.fault-index c.fault-item.result within
    c.fault-item.is c.requires.placed in
    let placed = placed_block (length db) (fault_seen c.fault-item.result) is_placed in
    let lines = placed_line (length db) (fault_seen c.fault-item.result) is_placed in
    let starts = length_starts db c.in_ok-starts.starts.items (length db) c.in_ok-starts.ensures.starts in
    let fault = fault_seen c.fault-item.result in
    let start : c.index.result.now ≡ lines_before db (block_of fault) =
    subst (λ at. c.index.result.now ≡ lines_before db at) c.block-at.ensures
    (start_read db c.in_ok-starts.starts.items (length db) c.block-at.result c.index.result.now c.in_ok-starts.ensures.starts
    (omega (arith, placed, c.block-at.ensures)) c.index.ensures) in
    one_more_line db c.args.first_line (map fault_seen (take c.loop-fault.fault-index c.args.faults.now))
    (map fault_seen (take (c.loop-fault.fault-index + 1) c.args.faults.now)) fault c.index.result.now c.loop-fault.out.items c.write_one.new.out.items
    c.loop-fault.invariant (map-take_item fault_seen c.args.faults.now c.loop-fault.fault-index c.fault-item.result within c.fault-item.is) start
    (c.in_ok-write_one.ensures ∙ ap (λ line. c.loop-fault.out.items ++ line_with_number (c.args.first_line + c.index.result.now + line - 1) fault)
    c.line-line.ensures)

pub loop-fault-init : goal.loop-fault-init
loop-fault-init c = c.new-out.ensures.items

pub returns : goal.returns
returns c =
    let lines = flat_map (extended_line c.args.database.now.texts c.args.first_line) in
    c.loop-fault.invariant ∙ ap (λ faults. lines (map fault_seen faults)) (take_all c.loop-fault.fault-index c.args.faults.now (omega arith))
