use Rattle.std.proofs.Common.{◌≡◌, drop, length}
use Rattle.user_kept.specs.inside.Kept.{AreRightOff}
use Rattle.user_kept.proofs.kept.find_again.Given as goal

abbrev pub invariant-loop-at : goal.invariant-loop-at
invariant-loop-at l = record {
  as_many : length l.findings.items ≡ length l.database;
  right : AreRightOff l.database (drop l.at-index l.places) l.findings.items;
}
