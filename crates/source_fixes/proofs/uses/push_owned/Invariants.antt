use Rattle.std.proofs.Common.{◌≡◌, ℕ, List, ◌++◌, filter, map, take}
use Rattle.std.specs.Rc.{rc_slice_items}
use Rattle.base_meaning.specs.Owner.{is_owner, readings}
use Rattle.source_fixes.proofs.uses.push_owned.Given as goal

abbrev pub invariant-loop-name : goal.invariant-loop-name
invariant-loop-name l = map (λ name. name.now) l.names.items
    ≡ map (λ name. name.now) l.fn.names.items ++ filter (λ (name : List ℕ). is_owner (readings l.database) name l.at)
    (map (λ name. rc_slice_items name.now) (take l.name-index l.name-items))
