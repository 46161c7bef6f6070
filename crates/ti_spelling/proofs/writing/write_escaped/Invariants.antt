use Rattle.std.proofs.Common.{◌≡◌, ◌+◌, ◌*◌, ◌≤◌, ◌++◌, drop, eqb, vec_len, vec_capacity}
use Rattle.ti_spelling.specs.Spelling.{written_from, spelling_of}
use Rattle.ti_spelling.proofs.writing.write_escaped.Given as goal

abbrev pub invariant-loop-i : goal.invariant-loop-i
invariant-loop-i l = record {
  done : l.text.items ++ written_from (eqb l.i 0) l.before (drop l.i l.value) ≡ l.initial.text.items ++ spelling_of l.value;
  len : vec_len l.text ≤ vec_len l.initial.text + 4 * l.i;
  capacity : vec_capacity l.initial.text ≤ vec_capacity l.text;
}
