use Rattle.std.proofs.Common.{◌≡◌, drop}
use Rattle.lsp_frames.specs.Frames.{number_of}
use Rattle.lsp_frames.proofs.frames.number.Given as goal

-- only blanks came
abbrev pub invariant-loop-at : goal.invariant-loop-at
invariant-loop-at l = number_of (drop l.at l.value) ≡ number_of l.value
