use Rattle.std.proofs.Common.{sym, arith}
use Rattle.std.proofs.lemmas.Bool.{eqb-true, eqb-false}
use Rattle.std.proofs.lemmas.Result.{err_from_is_err_and}
use Rattle.std.proofs.lemmas.List.{take_rest, length-drop}
use Rattle.ti_spelling.proofs.PieceLemmas.{piece_fits, steps, refuses, ends}
use Rattle.ti_spelling.proofs.spelling.Pieces.next_piece.Goals as goal

pub returns-then-is_empty : goal.returns-then-is_empty
returns-then-is_empty c = ends c.args.self.now.before c.args.self.now.rest.now (eqb-true _ _ (sym c.if-is_empty.ensures))

pub returns-in_err-piece : goal.returns-in_err-piece
returns-in_err-piece c =
    let p = err_from_is_err_and c.from_residual.result c.from_residual.ensures.1 in
    let some = eqb-false _ _ (sym c.if-is_empty.ensures) in
    rw (p.1, p.2) (refuses c.args.self.now.before c.args.self.now.rest.now c.in_err-piece.field-0.0 (omega (arith, some)) (sym c.in_err-piece.ensures))

pub overflow_sub-self : goal.overflow_sub-self
overflow_sub-self c = omega (arith, piece_fits c.args.self.now.before c.args.self.now.rest.now c.in_ok-piece.piece (sym c.in_ok-piece.ensures))

pub bounds-self-piece : goal.bounds-self-piece
bounds-self-piece c = omega (arith, piece_fits c.args.self.now.before c.args.self.now.rest.now c.in_ok-piece.piece (sym c.in_ok-piece.ensures))

pub slice_bounds-self-count : goal.slice_bounds-self-count
slice_bounds-self-count c = omega (arith, piece_fits c.args.self.now.before c.args.self.now.rest.now c.in_ok-piece.piece (sym c.in_ok-piece.ensures))

pub slice_bounds-self-start : goal.slice_bounds-self-start
slice_bounds-self-start c = omega (arith, piece_fits c.args.self.now.before c.args.self.now.rest.now c.in_ok-piece.piece (sym c.in_ok-piece.ensures))

pub returns : goal.returns
returns c =
    let fits = piece_fits c.args.self.now.before c.args.self.now.rest.now c.in_ok-piece.piece (sym c.in_ok-piece.ensures) in
    let step = steps c.args.self.now.before c.args.self.now.rest.now c.in_ok-piece.piece (sym c.in_ok-piece.ensures) in
    (rw take_rest step, rw (take_rest, length-drop) (omega (arith, fits.0, fits.1)))
