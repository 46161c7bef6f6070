use Rattle.std.proofs.Common.{◌≡◌, ◌++◌, length, map}
use Rattle.std.specs.String.{string_bytes}
use Rattle.ti_formats.specs.Left.{left_of}
use Rattle.source_strings.specs.Pieces.{is_literal, piece_seen, pieces_after, stop_or}
use Rattle.source_strings.specs.Words.{words_of}
use Rattle.source_strings.proofs.pieces.push_after.Given as goal

-- the pieces so far, with those of the tokens that are left, are those of all
abbrev pub invariant-loop-place : goal.invariant-loop-place
invariant-loop-place l = record {
  list : map piece_seen l.list.items
      ++ pieces_after l.start l.literal (string_bytes l.words) (left_of l.lexer).tokens (stop_or l.len (left_of l.fn.lexer).stop)
      ≡ map piece_seen l.fn.list.items
      ++ pieces_after l.fn.begun.place (is_literal l.fn.begun.token) (words_of l.fn.begun.token) (left_of l.fn.lexer).tokens
      (stop_or l.len (left_of l.fn.lexer).stop);
  stop : (left_of l.lexer).stop ≡ (left_of l.fn.lexer).stop;
}

abbrev pub decreases-loop-place : goal.decreases-loop-place
decreases-loop-place l = length (left_of l.lexer).tokens
