use Rattle.std.proofs.Common.{◌≡◌, ◌≤◌, ◌++◌, drop, length, map}
use Rattle.source_format.specs.Layout.{laid, line_start}
use Rattle.source_format.specs.Pieces.{merged}
use Rattle.source_format.specs.inside.Steps.{entry_seen, line_seen, place_seen}
use Rattle.source_format.proofs.formatting.push_pieces.Given as goal

-- what is written so far, and of the rest, is what is written of all
abbrev pub invariant-loop-entry : goal.invariant-loop-entry
invariant-loop-entry l = record {
  so : l.out.items ++ laid l.width (place_seen l.place) (merged (map entry_seen (drop l.entry-index l.entries)) (map line_seen (drop l.at l.lines)))
      ≡ l.fn.out.items ++ laid l.width line_start (merged (map entry_seen l.entries) (map line_seen l.lines));
  within : l.at ≤ length l.lines;
}
