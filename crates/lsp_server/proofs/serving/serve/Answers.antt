use Rattle.std.proofs.Common.{sym, ◌∙◌, arith}
use Rattle.std.proofs.lemmas.Grind.{common_steps}
use Rattle.std.proofs.lemmas.Result.{err_from_is_err_and}
use Rattle.tools_devices.specs.Counted.{observation}
use Rattle.lsp_server.proofs.Serves.{Progress-more, Progress-none, ServingEnds-ended, ServingEnds-most, ServingEnds-stopped}
use Rattle.lsp_server.specs.States.{state_of}
use Rattle.lsp_server.proofs.serving.serve.Goals as goal

pub loop-frames_left-init : goal.loop-frames_left-init
loop-frames_left-init g c =
    Progress-none g.D.HeldText.place_in (g.D.HeldText.says c.args.surroundings.now) (state_of g.D.HeldText.text_of c.args.server.now)
    (g.I.Input.seen c.args.input.now) (observation g.W.Write.contents c.args.writer.now)

pub returns-in-Some : goal.returns-in-Some
returns-in-Some g c =
    ServingEnds-ended _ _ _ _ _ _ _ _ _ c.loop-frames_left.invariant c.in-Some.status (sym c.status.ensures ∙ c.in-Some.is)

pub loop-frames_left-preserved : goal.loop-frames_left-preserved
loop-frames_left-preserved g c =
    Progress-more _ _ _ _ _ _ _ _ _ c.loop-frames_left.invariant (sym c.status.ensures ∙ c.in_default.is) _ _ _ c.in_ok-serve_frame.ensures.turn
    (grind (arith, common_steps))

pub returns-in_err-serve_frame : goal.returns-in_err-serve_frame
returns-in_err-serve_frame g c =
    let e = err_from_is_err_and c.from_residual.result c.from_residual.ensures.1 in
    let going = sym c.status.ensures ∙ c.in_default.is in
    rw (e.1, e.2) (ServingEnds-stopped _ _ _ _ _ _ _ _ _ c.loop-frames_left.invariant going _ _ _ _ c.in_err-serve_frame.ensures.stops)

pub returns : goal.returns
returns g c = ServingEnds-most _ _ _ _ _ _ _ _ _ c.loop-frames_left.invariant (grind (arith, common_steps))
