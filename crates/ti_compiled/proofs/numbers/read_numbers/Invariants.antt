use Rattle.std.proofs.Common.{◌≡◌}
use Rattle.ti_compiled.proofs.Moving.{mixed}
use Rattle.ti_layout.specs.Image.{below}
use Rattle.ti_compiled.specs.inside.Changes.{wide_value}
use Rattle.ti_compiled.specs.inside.Image.{contents_in}
use Rattle.ti_compiled.proofs.numbers.read_numbers.Given as goal

abbrev pub invariant-loop-at : goal.invariant-loop-at
invariant-loop-at l = l.values ≡ below (mixed (λ _. 4294967295) (wide_value (contents_in l.bytes)) l.at) 39
