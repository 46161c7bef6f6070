use Rattle.std.proofs.Common.{◌-◌, ◌≤◌, All, length}
use Rattle.source_spans.specs.Parts.{IsWithin}
use Rattle.source_spans.proofs.Parting.{PartsTo}
use Rattle.source_spans.proofs.parts.item_parts.Given as goal

abbrev pub invariant-loop-at : goal.invariant-loop-at
invariant-loop-at l = record {
  so : PartsTo l.text l.from l.parts.items l.start l.at l.before;
  order : l.start ≤ l.at;
  within : l.at ≤ length l.text;
  parts : All (IsWithin l.text) l.parts.items;
}

abbrev pub decreases-loop-at : goal.decreases-loop-at
decreases-loop-at l = length l.text - l.at
