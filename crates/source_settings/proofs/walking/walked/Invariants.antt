use Rattle.std.proofs.Common.{◌≡◌, ◌+◌, ◌≤◌, ℕ, drop, length}
use Rattle.source_places.specs.Position.{line_start}
use Rattle.source_settings.proofs.walking.walked.Given as goal

-- the lines before that of the number are walked, and this is where it begins
abbrev pub invariant-loop-passed : goal.invariant-loop-passed
invariant-loop-passed l = record {
  walk : l.walk ≡ (l.text, l._passed);
  within : l.start ≤ length l.text;
  left : (more : ℕ) → line_start l.text (l._passed + more) ≡ l.start + line_start (drop l.start l.text) more;
}
