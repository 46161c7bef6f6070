use Rattle.std.proofs.Common.{◌≡◌, drop, map}
use Rattle.std.specs.List.{find}
use Rattle.source_strings.specs.Explained.{holds}
use Rattle.source_strings.specs.Pieces.{piece_seen}
use Rattle.source_strings.proofs.explaining.piece_at.Given as goal

abbrev pub invariant-loop-piece : goal.invariant-loop-piece
invariant-loop-piece l = find (holds l.place) (map piece_seen (drop l.piece-index l.pieces)) ≡ find (holds l.place) (map piece_seen l.pieces)
