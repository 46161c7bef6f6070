use Rattle.std.proofs.Common.{◌≡◌, drop, false}
use Rattle.source_spans.specs.Words as spec
use Rattle.source_spans.proofs.words.is_open.Given as goal

abbrev pub invariant-loop-byte : goal.invariant-loop-byte
invariant-loop-byte l = spec.is_open l.plain l.before (drop l.byte-index l.text) ≡ spec.is_open false 10 l.text
