use Rattle.std.proofs.Common.{ℕ, ◌*◌, ◌<◌}
use Rattle.ti_layout.specs.Reading.{word_at, IsOffset}
use Rattle.ti_layout.proofs.sections.are_offsets.Given as goal

abbrev pub invariant-loop-index : goal.invariant-loop-index
invariant-loop-index l = (k : ℕ) → k < l.index → IsOffset l.strings (word_at (2 * k) l.offsets)
