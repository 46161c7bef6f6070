use Rattle.std.proofs.Common.{◌≡◌}
use Rattle.ti_caps.specs.inside.Keys.{key_up_to}
use Rattle.ti_caps.proofs.keys.key_of.Given as goal

abbrev pub invariant-loop-place : goal.invariant-loop-place
invariant-loop-place l = l.key ≡ key_up_to l.place l.name
