use Rattle.std.proofs.Common.{◌≡◌, filter, map, take}
use Rattle.source_blocks.specs.Giving.{can_be_given}
use Rattle.source_fixes.proofs.giving.given_names.Given as goal

abbrev pub invariant-loop-name : goal.invariant-loop-name
invariant-loop-name l = map (λ name. name.now) l.found.items ≡ filter can_be_given (map (λ name. name.now) (take l.name-index l.names))
