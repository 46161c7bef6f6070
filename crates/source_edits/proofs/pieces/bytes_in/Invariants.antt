use Rattle.std.proofs.Common.{◌≡◌, take}
use Rattle.source_edits.specs.Pieces.{bytes_in}
use Rattle.source_edits.proofs.pieces.bytes_in.Given as goal

-- those so far
abbrev pub invariant-loop-byte : goal.invariant-loop-byte
invariant-loop-byte l = l.found.items ≡ bytes_in l.part (take l.byte-index l.text)
