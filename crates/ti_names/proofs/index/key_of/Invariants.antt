use Rattle.std.proofs.Common.{◌≡◌}
use Rattle.ti_names.specs.inside.Index.{key_up_to}
use Rattle.ti_names.proofs.index.key_of.Given as goal

abbrev pub invariant-loop-place : goal.invariant-loop-place
invariant-loop-place l = l.key ≡ key_up_to l.place l.word
