use Rattle.std.proofs.Common.{◌≡◌, take}
use Rattle.ti_source.specs.Items.{bytes}
use Rattle.source_edits.proofs.pieces.bytes_of.Given as goal

abbrev pub invariant-loop-byte : goal.invariant-loop-byte
invariant-loop-byte l = l.found.items ≡ bytes (take l.byte-index l.text)
