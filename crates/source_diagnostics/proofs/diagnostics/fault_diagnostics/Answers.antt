use Rattle.std.proofs.Common.{◌≡◌, ◌<◌, ◌≤◌, ◌+◌, ◌-◌, ℕ, List, [], ◌∷◌, ◌++◌, drop, length, map, ap, ap₂, subst, sym, ◌∙◌, arith}
use Rattle.std.proofs.lemmas.List.{get_or_read, map-append}
use Rattle.base_meaning.specs.Report.{lines_before}
use Rattle.user_compiling.specs.Faults.{block_of, fault_seen}
use Rattle.user_compiling.specs.declared.fault.ExtendedFault.{ExtendedFault}
use Rattle.user_compiling.proofs.Lines.{placed_block, placed_line}
use Rattle.source_types.specs.declared.places.Range.{Range}
use Rattle.source_diagnostics.specs.Diagnostics.{Shown, diagnostic_seen}
use Rattle.source_diagnostics.specs.declared.diagnostics.Diagnostic.{Diagnostic}
use Rattle.source_diagnostics.specs.inside.Marked.{marked_diagnostics}
use Rattle.source_diagnostics.proofs.FaultLines.{all_shown, as_many_marks, length_starts, marked_shown, one_more_shown, placed_item, shown_marked, start_read}
use Rattle.source_diagnostics.proofs.diagnostics.fault_diagnostics.Goals as goal

pub index-requires : goal.index-requires
index-requires c =
    let n = length c.args.database.now in
    let placed = placed_item n c.args.marked.now.faults.items c.as_slice-faults.result.now c.loop-at.at c.index-faults-at.result
    c.as_slice-faults.ensures.value (omega arith) c.index-faults-at.is c.requires.marked.placed in
    let block = placed_block n (fault_seen c.index-faults-at.result) placed in
    let starts = length_starts c.args.database.now c.in_ok-starts.starts.items n c.in_ok-starts.ensures.starts in
    omega (arith, block, c.block.ensures, starts, c.in_ok-starts.starts.ok.0)

pub number_of-number-requires-clause-before : goal.number_of-number-requires-clause-before
number_of-number-requires-clause-before c =
    let n = length c.args.database.now in
    let placed = placed_item n c.args.marked.now.faults.items c.as_slice-faults.result.now c.loop-at.at c.index-faults-at.result
    c.as_slice-faults.ensures.value (omega arith) c.index-faults-at.is c.requires.marked.placed in
    let block = placed_block n (fault_seen c.index-faults-at.result) placed in
    let starts = length_starts c.args.database.now c.in_ok-starts.starts.items n c.in_ok-starts.ensures.starts in
    let within : c.block.result < length c.in_ok-starts.starts.items = omega (arith, block, c.block.ensures, starts) in
    let is = get_or_read c.in_ok-starts.starts.items c.block.result c.index.result.now within c.index.ensures 0 in
    omega (arith, is, c.in_ok-starts.ensures.small c.block.result 0 within)

pub number_of-number-requires-clause-line : goal.number_of-number-requires-clause-line
number_of-number-requires-clause-line c =
    let n = length c.args.database.now in
    subst (λ (k : ℕ). (1 ≤ k) × (k ≤ 1048577)) (sym c.line.ensures)
    (placed_line n (fault_seen c.index-faults-at.result)
    (placed_item n c.args.marked.now.faults.items c.as_slice-faults.result.now c.loop-at.at c.index-faults-at.result
    c.as_slice-faults.ensures.value (omega arith) c.index-faults-at.is c.requires.marked.placed))

pub mark_at-requires : goal.mark_at-requires
mark_at-requires c =
    let many = as_many_marks c.args.capabilities c.args.database.now c.args.marked.now.faults.items c.args.marked.now.marks.items c.requires.marked in
    let faults = ap length c.as_slice-faults.ensures.value in
    let marks = ap length c.as_slice-marks.ensures.value in
    omega (arith, c.loop-at-test.true, many, faults, marks)

pub loop-at-init : goal.loop-at-init
loop-at-init c =
    let texts = c.args.database.now in
    let shown = marked_shown c.args.capabilities texts c.args.first (map fault_seen c.args.marked.now.faults.items) c.args.marked.now.marks.items c.requires.marked in
    ap (λ (ds : List Diagnostic). map diagnostic_seen ds ++ marked_diagnostics c.args.capabilities texts c.args.first c.as_slice-marks.result.now (map fault_seen c.as_slice-faults.result.now))
    c.in_ok-all.ensures.items
    ∙ ap₂ (λ (ms : List Range) (fs : List ExtendedFault). marked_diagnostics c.args.capabilities texts c.args.first ms (map fault_seen fs)) c.as_slice-marks.ensures.value
    c.as_slice-faults.ensures.value
    ∙ shown

pub loop-at-preserved : goal.loop-at-preserved
loop-at-preserved c =
    let texts = c.args.database.now in
    let n = length texts in
    let first = c.args.first in
    let fault = c.index-faults-at.result in
    let faults = c.as_slice-faults.result.now in
    let marks = c.as_slice-marks.result.now in
    let all = c.loop-at.all.items in
    let shown = c.in_ok-diagnostic_of.field-0 in
    let start = c.index.result.now in
    let placed = placed_item n c.args.marked.now.faults.items faults c.loop-at.at fault
    c.as_slice-faults.ensures.value (omega arith) c.index-faults-at.is c.requires.marked.placed in
    let block = placed_block n (fault_seen fault) placed in
    let line = placed_line n (fault_seen fault) placed in
    let starts = length_starts texts c.in_ok-starts.starts.items n c.in_ok-starts.ensures.starts in
    let below : c.block.result < n = omega (arith, block, c.block.ensures) in
    let within : c.block.result < length c.in_ok-starts.starts.items = omega (arith, below, starts) in
    let is = get_or_read c.in_ok-starts.starts.items c.block.result start within c.index.ensures start in
    let lines : start ≡ lines_before texts (block_of (fault_seen fault)) =
    start_read texts c.in_ok-starts.starts.items n c.block.result start c.in_ok-starts.ensures.starts below is ∙ ap (lines_before texts) c.block.ensures in
    let number = c.number_of-number.ensures ∙ ap (λ (k : ℕ). first - 1 + start + (k - 1)) c.line.ensures in
    let many = as_many_marks c.args.capabilities texts c.args.marked.now.faults.items c.args.marked.now.marks.items c.requires.marked in
    let there : c.loop-at.at < length marks =
    omega (arith, c.loop-at-test.true, many, ap length c.as_slice-faults.ensures.value, ap length c.as_slice-marks.ensures.value) in
    let seen = shown_marked c.args.capabilities texts first start c.number_of-number.result c.mark_at.result c.on_line-range.result (fault_seen fault) (diagnostic_seen shown)
    c.requires.first line.0 lines number c.on_line-range.ensures c.in_ok-diagnostic_of.ensures in
    ap (λ (ss : List Shown). ss ++ marked_diagnostics c.args.capabilities texts first (drop (c.loop-at.at + 1) marks) (map fault_seen (drop (c.loop-at.at + 1) faults)))
    (ap (map diagnostic_seen) c.in_ok-push.ensures.items ∙ map-append diagnostic_seen all (shown ∷ []))
    ∙ one_more_shown c.args.capabilities texts first marks faults c.loop-at.at c.mark_at.result fault (diagnostic_seen shown) (map diagnostic_seen all) _
    (omega arith) c.index-faults-at.is there c.mark_at.ensures seen c.loop-at.invariant

pub returns : goal.returns
returns c =
    all_shown c.args.capabilities c.args.database.now c.args.first c.as_slice-marks.result.now c.as_slice-faults.result.now c.loop-at.at
    (map diagnostic_seen c.loop-at.all.items) _ (omega arith) c.loop-at.invariant
