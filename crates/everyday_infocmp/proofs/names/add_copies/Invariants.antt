use Rattle.std.proofs.Common.{◌≡◌, ◌++◌, map, replicate}
use Rattle.everyday_infocmp.proofs.names.add_copies.Given as goal

-- the names that were there, and the copies before
abbrev pub invariant-loop-copy : goal.invariant-loop-copy
invariant-loop-copy l = map (λ name. name.now) l.all.items ≡ map (λ name. name.now) l.initial.all.items ++ replicate l.copy l.name
