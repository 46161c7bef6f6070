use Rattle.std.proofs.Common.{◌≡◌, take}
use Rattle.source_edits.specs.Shown.{shown}
use Rattle.source_edits.proofs.texts.shown_bytes.Given as goal

abbrev pub invariant-loop-byte : goal.invariant-loop-byte
invariant-loop-byte l = l.all.items ≡ shown (take l.byte-index l.bytes)
