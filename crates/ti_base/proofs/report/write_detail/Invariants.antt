use Rattle.std.proofs.Common.{◌≡◌, ◌++◌, map, take}
use Rattle.base_meaning.specs.Report.{shown_byte}
use Rattle.ti_base.proofs.report.write_detail.Given as goal

abbrev pub invariant-loop-byte : goal.invariant-loop-byte
invariant-loop-byte l = l.out.items ≡ l.fn.out.items ++ map shown_byte (take l.byte-index l.detail)
