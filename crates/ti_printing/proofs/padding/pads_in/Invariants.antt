use Rattle.std.proofs.Common.{◌≡◌, ◌+◌, ◌≤◌}
use Rattle.ti_printing.specs.Padding.{padding_of_parts}
use Rattle.ti_printing.specs.inside.Padding.{padding_of}
use Rattle.ti_printing.specs.inside.Padding.{parts_of}
use Rattle.ti_printing.proofs.padding.pads_in.Given as goal

-- the pad bytes so far and those of the parts to come are all
abbrev pub invariant-loop-part : goal.invariant-loop-part
invariant-loop-part l = record {
  can_next : (goal.iterator-loop-part).can_next l.part-iterator;
  is_finite : (goal.iterator-loop-part).is_finite l.part-iterator;
  total : l.total + padding_of_parts l.lines l.line (parts_of l.part-iterator.rest.now) ≡ padding_of l.text l.lines l.line;
  bound : l.total ≤ 65536;
}
