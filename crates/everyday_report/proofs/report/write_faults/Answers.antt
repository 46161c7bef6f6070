use Rattle.std.proofs.Common.{◌≡◌, ◌∙◌, ◌+◌, ◌<◌, ◌≤◌, Some, true, false, length, nat_lt, slice_get, refl, sym, ap, arith}
use Rattle.std.proofs.lemmas.Bool.{lt-ltb, le-ltb}
use Rattle.base_meaning.specs.Report.{lines_before}
use Rattle.ti_base.proofs.Counting.{start_read, length_starts}
use Rattle.user_compiling.specs.Faults.{block_of, fault_seen}
use Rattle.everyday_report.specs.Report.{is_of_first}
use Rattle.everyday_report.proofs.Placing.{block_placed, first_placed, line_placed}
use Rattle.everyday_report.proofs.Writing.{all_said, none_said, passed_in_turn, said_in_turn}
use Rattle.everyday_report.proofs.report.write_faults.Goals as goal
use Rattle.everyday_report.proofs.report.write_faults.Goals.{then-at-count+in_ok-write_next, else-at-count}

pub block_at-requires : goal.block_at-requires
block_at-requires c =
    let placed = first_placed (length c.args.database.now.texts) c.args.faults.now c.in-Some.first.now c.in-Some.ensures.value c.requires.placed in
    omega (arith, placed, c.block.ensures)

pub of-requires : goal.of-requires
of-requires c = c.block_at.ensures.read

pub loop-fault-init : goal.loop-fault-init
loop-fault-init c =
    none_said c.args.file.now c.args.database.now.texts c.args.first_line _ c.args.out.now.items c.block_at.result.text.now
    c.in_ok-places.places c.block_at.result.at c.block.result
    c.in_ok-places.ensures c.block_at.ensures.position c.block_at.ensures.stands

pub index-requires : goal.index-requires
index-requires c =
    let db = c.args.database.now.texts in
    let placed = block_placed (length db) c.args.faults.now c.loop-fault.fault-index c.fault-item.result (omega arith) c.fault-item.is c.requires.placed in
    let starts = length_starts db c.in_ok-starts.starts.items (length db) c.in_ok-starts.ensures.starts in
    omega (arith, placed, starts, c.in_ok-starts.starts.ok.0, c.block-at.ensures)

pub overflow_add-start : goal.overflow_add-start
overflow_add-start c =
    let db = c.args.database.now.texts in
    let placed = block_placed (length db) c.args.faults.now c.loop-fault.fault-index c.fault-item.result (omega arith) c.fault-item.is c.requires.placed in
    let starts = length_starts db c.in_ok-starts.starts.items (length db) c.in_ok-starts.ensures.starts in
    let there : c.block-at.result < length c.in_ok-starts.starts.items = omega (arith, placed, starts, c.block-at.ensures) in
    let small : c.index.result.now ≤ 68719476736 = rw (← c.index.ensures) at (c.in_ok-starts.ensures.small c.block-at.result c.index.result.now there) in
    let first = c.requires.first in
    omega (arith, small, first)

pub block_at-block-requires : goal.block_at-block-requires
block_at-block-requires c =
    let placed = block_placed (length c.args.database.now.texts) c.args.faults.now c.loop-fault.fault-index c.fault-item.result (omega arith) c.fault-item.is
    c.requires.placed in
    omega (arith, placed, c.block-at.ensures)

pub write_next-requires-clause-read : goal.write_next-requires-clause-read
write_next-requires-clause-read c = c.block_at-block.ensures.read

pub write_next-requires-clause-line : goal.write_next-requires-clause-line
write_next-requires-clause-line c =
    (line_placed (length c.args.database.now.texts) c.args.faults.now c.loop-fault.fault-index c.fault-item.result (omega arith) c.fault-item.is c.requires.placed).0

pub write_next-requires-clause-small : goal.write_next-requires-clause-small
write_next-requires-clause-small c =
    (line_placed (length c.args.database.now.texts) c.args.faults.now c.loop-fault.fault-index c.fault-item.result (omega arith) c.fault-item.is c.requires.placed).1

pub write_next-requires-clause-start : goal.write_next-requires-clause-start
write_next-requires-clause-start c =
    let db = c.args.database.now.texts in
    let placed = block_placed (length db) c.args.faults.now c.loop-fault.fault-index c.fault-item.result (omega arith) c.fault-item.is c.requires.placed in
    let starts = length_starts db c.in_ok-starts.starts.items (length db) c.in_ok-starts.ensures.starts in
    let there : c.block-at.result < length c.in_ok-starts.starts.items = omega (arith, placed, starts, c.block-at.ensures) in
    let small : c.index.result.now ≤ 68719476736 = rw (← c.index.ensures) at (c.in_ok-starts.ensures.small c.block-at.result c.index.result.now there) in
    let first = c.requires.first in
    omega (arith, small, first)

pub loop-fault-preserved : goal.loop-fault-preserved
loop-fault-preserved c =
    let db = c.args.database.now.texts in
    let at = c.block-at.result in
    let fault = fault_seen c.fault-item.result in
    let low : c.loop-fault.fault-index < length c.args.faults.now = omega arith in
    let placed = block_placed (length db) c.args.faults.now c.loop-fault.fault-index c.fault-item.result low c.fault-item.is c.requires.placed in
    elim c.if-at-count.branch [
      | then-at-count+in_ok-write_next w ↦
          let of_first : is_of_first c.args.count fault ≡ true =
          ap (λ n. nat_lt n c.args.count) (sym c.block-at.ensures) ∙ lt-ltb at c.args.count w.if-at-count.true in
          let begins : c.args.first_line + w.index.result.now ≡ c.args.first_line + lines_before db (block_of fault) =
          ap (λ n. c.args.first_line + n)
          (start_read db c.in_ok-starts.starts.items (length db) at w.index.result.now c.in_ok-starts.ensures.starts (omega (arith, placed, c.block-at.ensures))
          w.index.ensures ∙ ap (lines_before db) c.block-at.ensures) in
          let block = w.block_at-block.result in
          let is_block : block.at ≡ block_of fault = w.block_at-block.ensures.position ∙ c.block-at.ensures in
          let stands : slice_get db (block_of fault) ≡ Some block.text.now =
          ap (slice_get db) (sym c.block-at.ensures) ∙ w.block_at-block.ensures.stands in
          let line = rw is_block at w.in_ok-write_next.ensures.line in
          let reached = rw is_block at w.in_ok-write_next.ensures.reached in
          said_in_turn fault_seen c.args.file.now db c.args.first_line c.args.count c.args.faults.now c.loop-fault.fault-index c.fault-item.result
          c.loop-fault.places c.if-at-count.places (c.args.first_line + w.index.result.now) block.text.now c.loop-fault.out.items
          c.if-at-count.out.items _ low c.fault-item.is of_first begins stands (rw w.out-is line) (rw w.places-is reached) c.loop-fault.invariant
      | else-at-count w ↦
          let of_others : is_of_first c.args.count fault ≡ false =
          ap (λ n. nat_lt n c.args.count) (sym c.block-at.ensures) ∙ le-ltb at c.args.count w.if-at-count.false in
          passed_in_turn fault_seen c.args.file.now db c.args.first_line c.args.count c.args.faults.now c.loop-fault.fault-index c.fault-item.result
          c.loop-fault.places c.if-at-count.places c.loop-fault.out.items c.if-at-count.out.items _ low c.fault-item.is of_others w.places-is (rw w.out-is refl)
          c.loop-fault.invariant
    ]

pub returns : goal.returns
returns c =
    all_said fault_seen c.args.file.now c.args.database.now.texts c.args.first_line c.args.count c.args.faults.now c.loop-fault.fault-index c.loop-fault.places
    c.loop-fault.out.items _ (omega arith) c.loop-fault.invariant
