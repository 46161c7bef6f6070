use Rattle.std.proofs.Common.{◌≡◌, map, take}
use Rattle.source_remarks.specs.Hints.{mark_of}
use Rattle.source_remarks.proofs.marks.marks_of.Given as goal

abbrev pub invariant-loop-hint : goal.invariant-loop-hint
invariant-loop-hint l = record {
  marks : l.marks.items ≡ map (mark_of l.block) (take l.hint-index l.hints);
  walk : l.walk ≡ l.block;
}
