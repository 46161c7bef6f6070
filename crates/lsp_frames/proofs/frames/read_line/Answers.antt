use Rattle.std.proofs.Common.{arith}
use Rattle.std.proofs.lemmas.Grind.{common_steps}
use Rattle.std.proofs.lemmas.Result.{IfErr-weaker, IfOk-weaker, err_from_is_err_and}
use Rattle.lsp_frames.proofs.ReadParts.{line_dry, line_ended, line_long, line_memory, line_more, line_no_return, line_none, line_rest}
use Rattle.lsp_frames.proofs.frames.read_line.Goals as goal

pub loop-input-init : goal.loop-input-init
loop-input-init g c = line_none (g.I.Input.seen c.args.input.now) c.new-line.result.items c.new-line.ensures.items

pub returns-in_err-byte-clause-stops : goal.returns-in_err-byte-clause-stops
returns-in_err-byte-clause-stops g c =
    let i = c.loop-input.invariant in
    let e = err_from_is_err_and c.from_residual.result c.from_residual.ensures.1 in
    rw (e.1, e.2) (line_dry _ _ _ _ i.0 i.1 _ _ c.in_err-byte.ensures.stops)

pub returns-then-byte-eq10-clause-read : goal.returns-then-byte-eq10-clause-read
returns-then-byte-eq10-clause-read g c =
    let i = c.loop-input.invariant in
    IfOk-weaker c.without_return.result _ _
    (λ rest is. line_ended _ _ _ _ i.0 i.1 c.in_ok-byte.byte rest.items c.in_ok-byte.ensures.read c.if-byte-eq10.true is) c.without_return.ensures.rest

pub returns-then-byte-eq10-clause-line : goal.returns-then-byte-eq10-clause-line
returns-then-byte-eq10-clause-line g c =
    let i = c.loop-input.invariant in
    IfOk-weaker c.without_return.result _ _ (λ rest is. line_rest c.loop-input.line.items rest.items i.1 is) c.without_return.ensures.rest

pub returns-then-byte-eq10-clause-stops : goal.returns-then-byte-eq10-clause-stops
returns-then-byte-eq10-clause-stops g c =
    let i = c.loop-input.invariant in
    IfErr-weaker c.without_return.result _ _
    (λ fault why. line_no_return _ _ _ _ i.0 i.1 _ c.in_ok-byte.byte fault c.in_ok-byte.ensures.read c.if-byte-eq10.true why) c.without_return.ensures.refused

pub loop-input-preserved : goal.loop-input-preserved
loop-input-preserved g c =
    let i = c.loop-input.invariant in
    line_more _ _ _ _ i.0 i.1 c.in_ok-byte.byte c.push.new.line.items c.in_ok-byte.ensures.read c.if-byte-eq10.false c.in_ok-push.ensures

pub returns-in_err-push-clause-stops : goal.returns-in_err-push-clause-stops
returns-in_err-push-clause-stops g c =
    let i = c.loop-input.invariant in
    let e = err_from_is_err_and c.from_residual-in_err-push.result c.from_residual-in_err-push.ensures.1 in
    rw (e.1, e.2) (line_memory _ _ _ _ i.0 i.1 c.args.room c.in_ok-byte.byte c.in_ok-byte.ensures.read c.if-byte-eq10.false)

pub returns-clause-stops : goal.returns-clause-stops
returns-clause-stops g c =
    let i = c.loop-input.invariant in
    line_long _ _ c.args.room c.loop-input.line.items i.0 i.1 (grind (arith, common_steps))
