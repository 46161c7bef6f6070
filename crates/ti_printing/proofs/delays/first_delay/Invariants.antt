use Rattle.std.proofs.Common.{◌≡◌, ◌-◌, ◌≤◌, length}
use Rattle.ti_printing.specs.inside.Padding.{parts_of}
use Rattle.ti_printing.proofs.FirstDelays.{parts_from}
use Rattle.ti_printing.proofs.delays.first_delay.Given as goal

-- at no byte so far does a padding begin
abbrev pub invariant-loop-at : goal.invariant-loop-at
invariant-loop-at l = record { bound : l.at ≤ length l.text; found : parts_of l.text ≡ parts_from l.at l.text }

abbrev pub decreases-loop-at : goal.decreases-loop-at
decreases-loop-at l = length l.text - l.at
