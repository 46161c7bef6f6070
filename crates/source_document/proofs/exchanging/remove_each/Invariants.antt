use Rattle.std.proofs.Common.{◌≡◌, ◌+◌, ◌++◌, drop, take}
use Rattle.source_document.specs.Exchanges.{EditsLead}
use Rattle.source_document.proofs.exchanging.remove_each.Given as goal

abbrev pub invariant-loop-k : goal.invariant-loop-k
invariant-loop-k l = record {
  made : l.database ≡ take l.at l.fn.database ++ drop (l.at + l._k) l.fn.database;
  lead : EditsLead l._k l.fn.database l.database;
}
