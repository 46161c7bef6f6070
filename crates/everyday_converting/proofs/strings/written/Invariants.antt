use Rattle.std.proofs.Common.{◌≡◌, ◌++◌, length}
use Rattle.std.specs.Prelude.{option_map}
use Rattle.everyday_converting.specs.Strings.{written, written_from}
use Rattle.everyday_converting.proofs.strings.written.Given as goal

-- what was written, and what is to be written of the rest
abbrev pub invariant-loop-rest : goal.invariant-loop-rest
invariant-loop-rest l =
    option_map (λ later. l.out.items ++ later) (written_from l.caret l.parameters 0 l.state l.rest) ≡ written l.caret l.parameters l.text

abbrev pub decreases-loop-rest : goal.decreases-loop-rest
decreases-loop-rest l = length l.rest
