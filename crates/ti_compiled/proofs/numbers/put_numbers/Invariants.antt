use Rattle.std.proofs.Common.{◌≡◌, vec_len}
use Rattle.ti_compiled.proofs.NumbersPut.{PutUpTo}
use Rattle.ti_compiled.proofs.numbers.put_numbers.Given as goal

abbrev pub invariant-loop-at : goal.invariant-loop-at
invariant-loop-at l = record {
  len : vec_len l.bytes ≡ vec_len l.fn.bytes;
  so_far : PutUpTo l.fn.bytes.items l.bytes.items l.begin l.format l.values l.count l.at;
}
