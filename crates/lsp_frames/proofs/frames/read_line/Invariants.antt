use Rattle.std.proofs.Common.{◌-◌, length}
use Rattle.lsp_frames.specs.Inputs.{Gives}
use Rattle.lsp_frames.specs.Frames.{HasNoNewline}
use Rattle.lsp_frames.proofs.frames.read_line.Given as goal

-- the line was read
abbrev pub invariant-loop-input : goal.invariant-loop-input
invariant-loop-input g l =
    Gives (g.I.Input.seen l.initial.input) (g.I.Input.seen l.input) l.line.items × HasNoNewline l.line.items

abbrev pub decreases-loop-input : goal.decreases-loop-input
decreases-loop-input g l = l.room - length l.line.items
