use Rattle.std.proofs.Common.{ℕ, ◌*◌, ◌<◌}
use Rattle.ti_layout.specs.Layout.{width}
use Rattle.ti_layout.specs.Reading.{number_at, IsStoredNumber}
use Rattle.ti_layout.proofs.sections.are_numbers.Given as goal

abbrev pub invariant-loop-index : goal.invariant-loop-index
invariant-loop-index l = (k : ℕ) → k < l.index → IsStoredNumber l.format (number_at l.format (width l.format * k) l.numbers)
