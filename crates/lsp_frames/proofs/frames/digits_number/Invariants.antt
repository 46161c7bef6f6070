use Rattle.std.proofs.Common.{◌≡◌, ◌≤◌, ◌^◌, drop}
use Rattle.lsp_frames.specs.Frames.{number_after}
use Rattle.lsp_frames.proofs.frames.digits_number.Given as goal

-- what is left goes on with the number
abbrev pub invariant-loop-at : goal.invariant-loop-at
invariant-loop-at l =
    (number_after l.number (drop l.at l.digits) ≡ number_after 0 l.digits) × (l.number ≤ 10 ^ 16)
