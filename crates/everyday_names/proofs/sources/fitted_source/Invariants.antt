use Rattle.std.proofs.Common.{◌≡◌, map, take}
use Rattle.std.specs.List.{concat}
use Rattle.everyday_names.specs.Fields.{fitted}
use Rattle.everyday_names.proofs.sources.fitted_source.Given as goal

-- the blocks before
abbrev pub invariant-loop-at : goal.invariant-loop-at
invariant-loop-at l = l.source.items ≡ concat (map fitted (take l.at l.database.texts))
