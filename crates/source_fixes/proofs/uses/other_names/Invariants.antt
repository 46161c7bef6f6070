use Rattle.std.proofs.Common.{◌≡◌, ◌++◌, drop, flat_map, map}
use Rattle.std.specs.List.{enumerate_from}
use Rattle.source_fixes.specs.Fixes.{other_names, others_in}
use Rattle.source_fixes.proofs.uses.other_names.Given as goal

-- the names so far, and those of the blocks that are left, are all
abbrev pub invariant-loop-at : goal.invariant-loop-at
invariant-loop-at l = map (λ name. name.now) l.names.items ++ flat_map (others_in l.database l.own) (enumerate_from l.at (drop l.at l.database))
    ≡ other_names l.database l.own
