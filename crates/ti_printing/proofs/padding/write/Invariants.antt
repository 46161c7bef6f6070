use Rattle.std.proofs.Common.{◌≡◌, ◌+◌, ◌≤◌, ◌++◌, length, vec_len, vec_capacity}
use Rattle.ti_printing.specs.Padding.{padded_parts, padding_of_parts}
use Rattle.ti_printing.specs.inside.Padding.{with_pad_bytes}
use Rattle.ti_printing.specs.inside.Padding.{parts_of}
use Rattle.ti_printing.proofs.padding.write.Given as goal

-- there is room for the parts to come, and what is written and what they give are the whole
abbrev pub invariant-loop-part : goal.invariant-loop-part
invariant-loop-part l =
    let parts = parts_of l.part-iterator.rest.now in
    record {
      can_next : (goal.iterator-loop-part).can_next l.part-iterator;
      is_finite : (goal.iterator-loop-part).is_finite l.part-iterator;
      room : vec_len l.out + length parts + padding_of_parts l.lines l.line parts ≤ vec_capacity l.out;
      written : l.out.items ++ padded_parts l.lines l.line parts ≡ l.fn.out.items ++ with_pad_bytes l.text l.lines l.line;
    }
