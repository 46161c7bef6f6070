use Rattle.std.proofs.Common.{◌++◌, [], arith, length-append, take}
use Rattle.std.proofs.lemmas.Grind.{common_steps}
use Rattle.std.proofs.lemmas.Result.{err_from_is_err_and}
use Rattle.lsp_frames.proofs.Used.{Gives-none, Gives-then}
use Rattle.lsp_frames.proofs.ReadParts.{body_dry}
use Rattle.lsp_frames.proofs.frames.skip_body.Goals as goal

pub loop-left-init : goal.loop-left-init
loop-left-init g c = ([], Gives-none (g.I.Input.seen c.args.input.now), omega arith)

pub loop-left-preserved : goal.loop-left-preserved
loop-left-preserved g c =
    let i = c.loop-left.invariant in
    let s = c.in_ok-count.ensures.read in
    let parts = length-append i.0 (take c.in_ok-count.count c.read_some.new.piece) in (
      i.0 ++ take c.in_ok-count.count c.read_some.new.piece,
      Gives-then _ _ _ _ _ i.1 s.gives,
      grind (arith, common_steps, parts, i.2, s.within),
    )

pub returns-in_err-count-clause-stops : goal.returns-in_err-count-clause-stops
returns-in_err-count-clause-stops g c =
    let i = c.loop-left.invariant in
    let e = err_from_is_err_and c.from_residual.result c.from_residual.ensures.1 in
    rw (e.1, e.2) (body_dry _ _ _ i.0 c.args.len i.1 _ c.in_err-count.ensures.stops (grind (arith, common_steps, i.2)))
