use Rattle.std.proofs.Common.{◌≡◌, drop}
use Rattle.source_spans.specs.Subjects.{begins_with}
use Rattle.source_spans.proofs.items.begins_with.Given as goal

abbrev pub invariant-loop-at : goal.invariant-loop-at
invariant-loop-at l = begins_with (drop l.at l.word) (drop l.at l.text) ≡ begins_with l.word l.text
