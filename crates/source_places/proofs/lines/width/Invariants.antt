use Rattle.std.proofs.Common.{◌≡◌, ◌+◌, ◌*◌, ◌≤◌, drop}
use Rattle.source_places.specs.LineTexts.{width}
use Rattle.source_places.proofs.lines.width.Given as goal

abbrev pub invariant-loop-byte : goal.invariant-loop-byte
invariant-loop-byte l = record {
  sum : l.sum + width (drop l.byte-index l.line) ≡ width l.line;
  few : l.sum ≤ 2 * l.byte-index;
}
