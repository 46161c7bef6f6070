use Rattle.std.proofs.Common.{◌≡◌, vec_len}
use Rattle.ti_compiled.proofs.Moving.{MovedUpTo}
use Rattle.ti_compiled.proofs.texts.move_later.Given as goal

abbrev pub invariant-loop-at : goal.invariant-loop-at
invariant-loop-at l = record {
  len : vec_len l.bytes ≡ vec_len l.fn.bytes;
  so_far : MovedUpTo l.fn.bytes.items l.bytes.items l.begin l.from l.to l.removed l.added l.at;
}
