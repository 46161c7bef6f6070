use Rattle.std.proofs.Common.{◌≡◌, drop}
use Rattle.base_meaning.specs.Owner.{readings}
use Rattle.source_hints.specs.Uses.{one_says}
use Rattle.source_hints.proofs.uses.one_says.Given as goal

-- what holds of the blocks that are left holds of all
abbrev pub invariant-loop-at : goal.invariant-loop-at
invariant-loop-at l = one_says (readings l.database) l.cap (drop l.at-index l.uses) ≡ one_says (readings l.database) l.cap l.uses
