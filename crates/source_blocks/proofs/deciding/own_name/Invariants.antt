use Rattle.std.proofs.Common.{◌≡◌, drop, map}
use Rattle.std.specs.List.{find}
use Rattle.std.specs.Rc.{rc_slice_items}
use Rattle.base_meaning.specs.Owner.{is_owner, readings}
use Rattle.source_blocks.proofs.deciding.own_name.Given as goal

abbrev pub invariant-loop-name : goal.invariant-loop-name
invariant-loop-name l =
    find (λ name. is_owner (readings l.database) name l.at) (map rc_slice_items (drop l.name-index l.names))
    ≡ find (λ name. is_owner (readings l.database) name l.at) (map rc_slice_items l.names)
