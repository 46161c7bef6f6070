use Rattle.std.proofs.Common.{◌≡◌, length}
use Rattle.ti_spelling.specs.inside.Spelling.{unescape_result, left_of, with_front}
use Rattle.ti_spelling.proofs.spelling.decode.Given as goal

abbrev pub invariant-loop-pieces : goal.invariant-loop-pieces
invariant-loop-pieces l = unescape_result l.raw ≡ with_front l.bytes.items l.odd (left_of l.pieces)

abbrev pub decreases-loop-pieces : goal.decreases-loop-pieces
decreases-loop-pieces l = length l.pieces.rest.now
