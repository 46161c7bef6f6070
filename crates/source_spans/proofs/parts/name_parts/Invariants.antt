use Rattle.std.proofs.Common.{◌-◌, ◌≤◌, All}
use Rattle.source_spans.specs.Parts.{IsWithin}
use Rattle.source_spans.proofs.Naming.{NamesTo}
use Rattle.source_spans.proofs.parts.name_parts.Given as goal

abbrev pub invariant-loop-at : goal.invariant-loop-at
invariant-loop-at l = record {
  so : NamesTo l.text l.len l.parts.items l.start l.at;
  order : l.start ≤ l.at;
  within : l.at ≤ l.len;
  parts : All (IsWithin l.text) l.parts.items;
}

abbrev pub decreases-loop-at : goal.decreases-loop-at
decreases-loop-at l = l.len - l.at
