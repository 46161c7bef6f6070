use Rattle.std.proofs.Common.{◌≡◌, ℕ, ◌++◌, List, drop, map}
use Rattle.source_format.specs.Layout.{laid}
use Rattle.source_format.specs.Pieces.{Piece, kept_piece}
use Rattle.source_format.specs.inside.Steps.{line_seen, place_seen}
use Rattle.source_format.proofs.writing.push_lines.Given as goal

abbrev pub invariant-loop-line : goal.invariant-loop-line
invariant-loop-line l =
    (width : ℕ) (rest : List Piece)
    → l.fn.out.items ++ laid width (place_seen l.fn.place) (map kept_piece (map line_seen l.lines) ++ rest)
    ≡ l.out.items ++ laid width (place_seen l.after) (map kept_piece (map line_seen (drop l.line-index l.lines)) ++ rest)
