use Rattle.std.proofs.Common.{◌≡◌, ◌≤◌, ◌*◌, All, map}
use Rattle.std.specs.List.{range_with_len}
use Rattle.base_meaning.specs.Report.{lines_before}
use Rattle.base_slots.specs.Slots.{slot_texts}
use Rattle.ti_base.proofs.report.line_starts.Given as goal

abbrev pub invariant-loop-at : goal.invariant-loop-at
invariant-loop-at l =
    (l.starts.items ≡ map (lines_before (slot_texts l.slots)) (range_with_len 0 l.at))
    × (l.lines ≡ lines_before (slot_texts l.slots) l.at)
    × (l.lines ≤ 1048576 * l.at)
    × All (λ start. start ≤ 68719476736) l.starts.items
