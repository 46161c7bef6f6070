use Rattle.std.proofs.Common.{◌≡◌, ◌<◌, ◌-◌, length}
use Rattle.base_meaning.specs.Owner.{readings}
use Rattle.source_blocks.specs.Deciding.{decider_in}
use Rattle.source_blocks.proofs.deciding.decider_in.Given as goal

abbrev pub invariant-loop-passed : goal.invariant-loop-passed
invariant-loop-passed l = record {
  so : decider_in (readings l.database) l.cap (length l.database - l._passed) l.here ≡ decider_in (readings l.database) l.cap (length l.database) l.at;
  within : l.here < length l.database;
}
