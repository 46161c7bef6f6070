use Rattle.std.proofs.Common.{option_map}
use Rattle.lsp_frames.specs.inside.Headers.{HeaderSoFar}
use Rattle.lsp_frames.proofs.frames.read_header.Given as goal

-- the lines were read
abbrev pub invariant-loop-room : goal.invariant-loop-room
invariant-loop-room g l =
    HeaderSoFar (g.I.Input.seen l.initial.input) (g.I.Input.seen l.input) (option_map (λ v. v.items) l.value) l.room

abbrev pub decreases-loop-room : goal.decreases-loop-room
decreases-loop-room g l = l.room
