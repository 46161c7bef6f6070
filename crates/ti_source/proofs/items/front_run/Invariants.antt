use Rattle.std.proofs.Common.{◌≡◌, take}
use Rattle.ti_source.specs.inside.Items.{PassesRun}
use Rattle.ti_source.proofs.items.front_run.Given as goal

abbrev pub invariant-loop-byte : goal.invariant-loop-byte
invariant-loop-byte l = record {
  counted : l.size ≡ l.byte-index;
  passes_run : PassesRun l.fn.escape l.fn.before (take l.byte-index l.text) l.next l.last;
}
