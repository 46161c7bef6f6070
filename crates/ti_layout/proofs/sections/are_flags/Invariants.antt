use Rattle.std.proofs.Common.{ℕ, ◌<◌, slice_index}
use Rattle.ti_layout.specs.Reading.{IsFlagByte}
use Rattle.ti_layout.proofs.sections.are_flags.Given as goal

abbrev pub invariant-loop-flag : goal.invariant-loop-flag
invariant-loop-flag l = (k : ℕ) → k < l.flag-index → IsFlagByte (slice_index l.flags k)
