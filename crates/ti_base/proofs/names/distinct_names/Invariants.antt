use Rattle.std.proofs.Common.{◌≡◌, ◌++◌, map, take, drop}
use Rattle.std.specs.Rc.{rc_slice_items}
use Rattle.base_meaning.specs.Faults.{distinct, distinct_after}
use Rattle.ti_base.specs.inside.Names.{is_seen}
use Rattle.ti_base.proofs.Naming.{AreSeen}
use Rattle.ti_base.proofs.names.distinct_names.Given as goal

-- the names told and those that are left to tell are all of them, each once; those passed are seen
abbrev pub invariant-loop-name : goal.invariant-loop-name
invariant-loop-name l =
    (map (λ name. rc_slice_items name.now) l.all.items ++ distinct_after (map rc_slice_items (take l.name-index l.names))
    (map rc_slice_items (drop l.name-index l.names))
    ≡ distinct (map rc_slice_items l.names))
    × AreSeen (is_seen l.seen) (map rc_slice_items (take l.name-index l.names))
