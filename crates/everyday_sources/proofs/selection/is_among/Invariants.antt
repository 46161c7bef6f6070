use Rattle.std.proofs.Common.{◌≡◌, drop, map}
use Rattle.std.specs.Rc.{rc_slice_items}
use Rattle.base_meaning.specs.Owner.{is_among}
use Rattle.everyday_sources.proofs.selection.is_among.Given as goal

-- the name is among all exactly if it is among the rest
abbrev pub invariant-loop-other : goal.invariant-loop-other
invariant-loop-other l = is_among l.name (map rc_slice_items (drop l.other-index l.names)) ≡ is_among l.name (map rc_slice_items l.names)
