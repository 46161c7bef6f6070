use Rattle.std.proofs.Common.{◌≡◌, map}
use Rattle.std.specs.Rc.{rc_slice_items}
use Rattle.ti_source.proofs.header.parts.Given as goal

abbrev pub invariant-loop-part : goal.invariant-loop-part
invariant-loop-part l = map rc_slice_items l.parts.items ≡ map (λ part. part.now) l.yielded
