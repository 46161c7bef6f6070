use Rattle.std.proofs.Common.{ℕ, ◌≡◌, ◌+◌, List, length}
use Rattle.lsp_frames.specs.Inputs.{Gives}
use Rattle.lsp_frames.proofs.frames.skip_body.Given as goal

-- the others were read
abbrev pub invariant-loop-left : goal.invariant-loop-left
invariant-loop-left g l =
    (bytes : List ℕ) × Gives (g.I.Input.seen l.initial.input) (g.I.Input.seen l.input) bytes × (length bytes + l.left ≡ l.len)

abbrev pub decreases-loop-left : goal.decreases-loop-left
decreases-loop-left g l = l.left
