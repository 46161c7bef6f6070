use Rattle.tools_devices.specs.Counted.{observation}
use Rattle.lsp_server.proofs.Serves.{Progress}
use Rattle.lsp_server.specs.States.{state_of}
use Rattle.lsp_server.proofs.serving.serve.Given as goal

-- the frames that were read are answered
abbrev pub invariant-loop-frames_left : goal.invariant-loop-frames_left
invariant-loop-frames_left g l =
    Progress g.D.HeldText.place_in (g.D.HeldText.says l.fn.surroundings) (state_of g.D.HeldText.text_of l.fn.server) (state_of g.D.HeldText.text_of l.server)
    (g.I.Input.seen l.fn.input) (g.I.Input.seen l.input)
    (observation g.W.Write.contents l.fn.writer) (observation g.W.Write.contents l.writer) l.frames_left

abbrev pub decreases-loop-frames_left : goal.decreases-loop-frames_left
decreases-loop-frames_left g l = l.frames_left
