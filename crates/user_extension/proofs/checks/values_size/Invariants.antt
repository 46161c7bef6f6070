use Rattle.std.proofs.Common.{◌≡◌, ℕ, ◌<◌, ◌≤◌, ◌*◌, min, length}
use Rattle.ti_layout.specs.Reading.{IsOffset, word_at}
use Rattle.user_extension.specs.Reading.{values_size}
use Rattle.user_extension.proofs.checks.values_size.Given as goal

abbrev pub invariant-loop-index : goal.invariant-loop-index
invariant-loop-index l = record {
  counted : l.size ≡ min (values_size l.values l.table l.index) (length l.table);
  small : l.size ≤ length l.table;
  sound : (k : ℕ) → k < l.index → IsOffset l.table (word_at (2 * k) l.values);
}
