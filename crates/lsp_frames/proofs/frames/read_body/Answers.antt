use Rattle.std.proofs.Common.{ap, arith, length, length-append}
use Rattle.std.proofs.lemmas.Grind.{common_steps}
use Rattle.std.proofs.lemmas.Result.{err_from_is_err_and}
use Rattle.lsp_frames.proofs.ReadParts.{body_none, body_stops}
use Rattle.lsp_frames.proofs.Transferred.{Gives-onto}
use Rattle.lsp_frames.proofs.frames.read_body.Goals as goal

pub loop-piece-init : goal.loop-piece-init
loop-piece-init g c = body_none (g.I.Input.seen c.args.input.now) c.new-body.result.items c.args.len c.new-body.ensures.items

pub loop-piece-preserved : goal.loop-piece-preserved
loop-piece-preserved g c =
    let i = c.loop-piece.invariant in
    let r = c.in_ok-read_piece.ensures.read in
    let lens = ap length r.2 in
    let parts = length-append c.loop-piece.body.items r.0 in
    (Gives-onto _ _ _ _ _ _ i.0 r.1 r.2, grind (arith, common_steps, lens, parts, r.4))

pub returns-in_err-read_piece-clause-stops : goal.returns-in_err-read_piece-clause-stops
returns-in_err-read_piece-clause-stops g c =
    let i = c.loop-piece.invariant in
    let e = err_from_is_err_and c.from_residual.result c.from_residual.ensures.1 in
    rw (e.1, e.2) (body_stops _ _ _ _ _ i.0 _ _ c.in_err-read_piece.ensures.stops (grind (arith, common_steps)))
