use Rattle.std.proofs.Common.{◌++◌, ◌∷◌, [], false, sym, ap, ◌∙◌}
use Rattle.std.specs.Prelude.{◌||◌}
use Rattle.ti_spelling.specs.inside.Spelling.{left_of, with_front}
use Rattle.ti_spelling.proofs.PieceLemmas.{moves_on, with_no_front}
use Rattle.ti_spelling.proofs.spelling.check.Goals as goal

pub loop-preserved : goal.loop-preserved
loop-preserved c =
    let before = c.loop.invariant in
    let piece = c.in-Some.field-0 in
    let taken = rw c.in-Some.is at c.in_ok-next_piece.ensures in
    record {
      front = before.front ++ piece.byte ∷ [];
      odd = before.odd || piece.odd;
      found = before.found ∙ ap (with_front before.front before.odd) taken.0 ∙ moves_on before.front before.odd piece (left_of c.next_piece.new.self);
    }

pub loop-init : goal.loop-init
loop-init c = record { front = []; odd = false; found = sym c.new-pieces.ensures.all ∙ with_no_front (left_of c.new-pieces.result) }
