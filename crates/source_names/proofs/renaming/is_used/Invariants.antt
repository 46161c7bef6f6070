use Rattle.std.proofs.Common.{◌≡◌, drop}
use Rattle.base_meaning.specs.Owner.{readings}
use Rattle.source_names.specs.Renaming.{is_used}
use Rattle.source_names.proofs.renaming.is_used.Given as goal

abbrev pub invariant-loop-at : goal.invariant-loop-at
invariant-loop-at l = is_used (readings (drop l.at l.database)) l.name ≡ is_used (readings l.database) l.name
