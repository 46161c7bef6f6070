-- Where lines begin.
use Rattle.std.specs.Prelude.{ℕ, ◌≡◌, ◌<◌, ◌≤◌, ◌-◌, false, true, List, length, slice_index}
use Rattle.everyday_report.specs.Columns.{is_on_line}

-- the line of an offset of a text begins there: the byte before is a newline, and none after it up to
-- the offset is
pub record IsLineStart (text : List ℕ) (offset start : ℕ) : Type 0 where
  pub within : offset ≤ length text
  pub before : start ≤ offset
  pub begins : 0 < start → is_on_line (slice_index text (start - 1)) ≡ false
  pub goes_on : (k : ℕ) → start ≤ k → k < offset → is_on_line (slice_index text k) ≡ true
