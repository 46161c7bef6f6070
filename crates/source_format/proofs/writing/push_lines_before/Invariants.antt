use Rattle.std.proofs.Common.{◌≡◌, ℕ, ◌≤◌, ◌-◌, ◌++◌, List, drop, length, map}
use Rattle.source_format.specs.Layout.{laid}
use Rattle.source_format.specs.Pieces.{Piece, kept_piece, lines_before, lines_from}
use Rattle.source_format.specs.inside.Steps.{line_seen, place_seen}
use Rattle.source_format.proofs.writing.push_lines_before.Given as goal

-- what is written so far, and of the lines that are left, is what is written of all
abbrev pub invariant-loop-next : goal.invariant-loop-next
invariant-loop-next l = record {
  so : (width : ℕ) (rest : List Piece)
      → l.fn.out.items ++ laid width (place_seen l.fn.place) (map kept_piece (lines_before l.fn.number (map line_seen (drop l.fn.at l.lines))) ++ rest)
      ≡ l.out.items ++ laid width (place_seen l.after) (map kept_piece (lines_before l.fn.number (map line_seen (drop l.next l.lines))) ++ rest);
  left : lines_from l.fn.number (map line_seen (drop l.next l.lines)) ≡ lines_from l.fn.number (map line_seen (drop l.fn.at l.lines));
  within : l.next ≤ length l.lines;
}

abbrev pub decreases-loop-next : goal.decreases-loop-next
decreases-loop-next l = length l.lines - l.next
