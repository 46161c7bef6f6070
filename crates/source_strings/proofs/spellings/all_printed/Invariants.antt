use Rattle.std.proofs.Common.{◌≡◌, map, take}
use Rattle.source_strings.specs.Spelled.{printed}
use Rattle.source_strings.proofs.spellings.all_printed.Given as goal

abbrev pub invariant-loop-byte : goal.invariant-loop-byte
invariant-loop-byte l = l.shown.items ≡ map printed (take l.byte-index l.bytes)
