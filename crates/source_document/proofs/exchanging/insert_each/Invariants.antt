use Rattle.std.proofs.Common.{◌≡◌, ◌++◌, drop, map, take}
use Rattle.source_document.specs.Exchanges.{EditsLead}
use Rattle.source_document.proofs.exchanging.insert_each.Given as goal

abbrev pub invariant-loop-k : goal.invariant-loop-k
invariant-loop-k l = record {
  made : l.database ≡ take l.at l.fn.database ++ map (λ text. text.now) (take l.k l.texts) ++ drop l.at l.fn.database;
  lead : EditsLead l.k l.fn.database l.database;
}
