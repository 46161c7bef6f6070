use Rattle.std.proofs.Common.{◌≡◌, ◌==◌, ℕ, ◌<◌, false, get_or}
use Rattle.ti_source.specs.Folding.{PlacedByte}
use Rattle.source_spans.proofs.parts.field_len.Given as goal

abbrev pub invariant-loop-at : goal.invariant-loop-at
invariant-loop-at l = (k : ℕ) (d : PlacedByte) → k < l.at → ((get_or l.text k d).0 == 44) ≡ false
