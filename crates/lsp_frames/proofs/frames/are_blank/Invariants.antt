use Rattle.std.proofs.Common.{◌≡◌, drop}
use Rattle.lsp_frames.specs.Frames.{are_blank}
use Rattle.lsp_frames.proofs.frames.are_blank.Given as goal

-- what is left decides
abbrev pub invariant-loop-byte : goal.invariant-loop-byte
invariant-loop-byte l = are_blank (drop l.byte-index l.bytes) ≡ are_blank l.bytes
