use Rattle.std.proofs.Common.{◌≢◌, ℕ, ◌-◌, ◌<◌, ◌≤◌}
use Rattle.user_extension.specs.Reading.{name_in}
use Rattle.user_extension.proofs.view.Extension.find_between.Given as goal

abbrev pub invariant-loop-first : goal.invariant-loop-first
invariant-loop-first l = record {
  low_end : l.low ≤ l.first;
  high_end : l.end ≤ l.high;
  before : (k : ℕ) → l.low ≤ k → k < l.first → name_in l.self.names.now l.self.tail.now k ≢ l.name;
  after : (k : ℕ) → l.end ≤ k → k < l.high → name_in l.self.names.now l.self.tail.now k ≢ l.name;
}

abbrev pub decreases-loop-first : goal.decreases-loop-first
decreases-loop-first l = l.end - l.first
