use Rattle.std.proofs.Common.{◌≡◌, Bool, List, ℕ, length}
use Rattle.ti_spelling.specs.inside.Spelling.{unescape_result, left_of, with_front}
use Rattle.ti_spelling.proofs.spelling.check.Given as goal

abbrev pub invariant-loop : goal.invariant-loop
invariant-loop l = record {
  front : List ℕ;
  odd : Bool;
  found : unescape_result l.raw ≡ with_front front odd (left_of l.pieces);
}

abbrev pub decreases-loop : goal.decreases-loop
decreases-loop l = length l.pieces.rest.now
