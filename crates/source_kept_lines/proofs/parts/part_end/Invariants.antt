use Rattle.std.proofs.Common.{◌≡◌, ◌+◌, drop}
use Rattle.source_kept_lines.specs.inside.Steps.{part_after, part_size}
use Rattle.source_kept_lines.proofs.parts.part_end.Given as goal

-- the bytes so far, and those of the part in the rest, are those of the part; so is what is reached
abbrev pub invariant-loop-at : goal.invariant-loop-at
invariant-loop-at l = record {
  size : l.at + part_size l.so_far (drop l.at l.text) ≡ part_size l.fn.reached l.text;
  reached : part_after l.so_far (drop l.at l.text) ≡ part_after l.fn.reached l.text;
}
