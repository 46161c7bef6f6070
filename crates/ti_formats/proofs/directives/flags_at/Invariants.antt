use Rattle.std.proofs.Common.{◌≡◌, length}
use Rattle.ti_formats.specs.Codes.{span, is_flag, flags_from}
use Rattle.ti_formats.specs.inside.Codes.{flags_of}
use Rattle.ti_formats.proofs.directives.flags_at.Given as goal

-- the flags that are left complete the flags
abbrev pub invariant-loop-byte : goal.invariant-loop-byte
invariant-loop-byte l = record {
  flags : flags_from l.flags (span (is_flag l.signed) l.rest).0 ≡ (flags_of (span (is_flag l.signed) l.text)).0;
  rest : (span (is_flag l.signed) l.rest).1 ≡ (span (is_flag l.signed) l.text).1;
}

abbrev pub decreases-loop-byte : goal.decreases-loop-byte
decreases-loop-byte l = length l.rest
