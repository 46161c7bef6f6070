use Rattle.std.proofs.Common.{◌≡◌, ℕ, ◌+◌, ◌*◌, ◌<◌, ◌≤◌}
use Rattle.ti_layout.specs.Reading.{word_at}
use Rattle.ti_compiled.proofs.texts.last_there.Given as goal

abbrev pub invariant-loop-end : goal.invariant-loop-end
invariant-loop-end l = record {
  within : l.end ≤ l.count;
  past : (j : ℕ) → l.end ≤ j → j < l.count → word_at (l.begin + 2 * j) l.bytes ≡ 65535;
}

abbrev pub decreases-loop-end : goal.decreases-loop-end
decreases-loop-end l = l.end
