use Rattle.std.proofs.Common.{◌≡◌, ◌++◌, drop, map}
use Rattle.std.specs.List.{flat_map}
use Rattle.std.specs.String.{string_bytes}
use Rattle.source_strings.specs.Explained.{piece_line}
use Rattle.source_strings.specs.Pieces.{piece_seen}
use Rattle.source_strings.proofs.explaining.push_pieces.Given as goal

abbrev pub invariant-loop-piece : goal.invariant-loop-piece
invariant-loop-piece l = string_bytes l.text ++ flat_map (piece_line l.format) (map piece_seen (drop l.piece-index l.pieces)) ≡ string_bytes l.fn.text
    ++ flat_map (piece_line l.format) (map piece_seen l.pieces)
