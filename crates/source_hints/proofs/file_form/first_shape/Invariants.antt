use Rattle.std.proofs.Common.{◌≡◌, ◌-◌, ◌≤◌, drop, length}
use Rattle.source_hints.specs.FileForms.{first_shape}
use Rattle.source_hints.proofs.Shapes.{moved}
use Rattle.source_hints.proofs.file_form.first_shape.Given as goal

-- the first is so much later than that of what is left
abbrev pub invariant-loop-passed : goal.invariant-loop-passed
invariant-loop-passed l = record {
  within : l.from ≤ length l.text;
  left : first_shape l.shape l.text ≡ moved l.from (first_shape l.shape (drop l.from l.text));
}

abbrev pub decreases-loop-passed : goal.decreases-loop-passed
decreases-loop-passed l = length l.text - l.from
