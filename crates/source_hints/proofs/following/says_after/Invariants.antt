use Rattle.std.proofs.Common.{◌≡◌, false, drop, map}
use Rattle.source_spans.specs.Parts.{part_of}
use Rattle.source_hints.specs.Following.{says_after}
use Rattle.source_hints.proofs.following.says_after.Given as goal

-- what holds of the items that are left holds of all
abbrev pub invariant-loop-at : goal.invariant-loop-at
invariant-loop-at l = says_after l.used (map (part_of l.text) (drop l.at l.items)) ≡ says_after false (map (part_of l.text) l.items)
