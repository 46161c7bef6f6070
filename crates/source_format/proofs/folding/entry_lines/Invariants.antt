use Rattle.std.proofs.Common.{◌≡◌, ◌+◌, ◌==◌, ◌≤◌, drop, map, if◌then◌else◌}
use Rattle.source_format.specs.Folds.{entry_lines}
use Rattle.source_format.proofs.folding.entry_lines.Given as goal

-- the lines from here on, or what was counted if they have none
abbrev pub invariant-loop-at : goal.invariant-loop-at
invariant-loop-at l = record {
  so : entry_lines (map (λ line. line.now) l.lines)
      ≡ (if entry_lines (map (λ line. line.now) (drop l.at l.lines)) == 0 then l.count else l.at + entry_lines (map (λ line. line.now) (drop l.at l.lines)));
  within : l.count ≤ l.at;
}
