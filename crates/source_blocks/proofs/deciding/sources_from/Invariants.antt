use Rattle.std.proofs.Common.{◌≡◌, ◌++◌, drop, map}
use Rattle.source_blocks.specs.Deciding.{source_seen, sources_from}
use Rattle.source_blocks.proofs.deciding.sources_from.Given as goal

abbrev pub invariant-loop-by : goal.invariant-loop-by
invariant-loop-by l =
    map source_seen l.sources.items ++ sources_from l.database l.inherited l.by (drop l.by l.database) ≡ sources_from l.database l.inherited 0 l.database
