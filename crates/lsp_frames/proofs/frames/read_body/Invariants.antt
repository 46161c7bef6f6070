use Rattle.std.proofs.Common.{◌-◌, ◌≤◌, length}
use Rattle.lsp_frames.specs.Inputs.{Gives}
use Rattle.lsp_frames.proofs.frames.read_body.Given as goal

-- the body so far was read
abbrev pub invariant-loop-piece : goal.invariant-loop-piece
invariant-loop-piece g l =
    Gives (g.I.Input.seen l.initial.input) (g.I.Input.seen l.input) l.body.items × (length l.body.items ≤ l.len)

abbrev pub decreases-loop-piece : goal.decreases-loop-piece
decreases-loop-piece g l = l.len - length l.body.items
