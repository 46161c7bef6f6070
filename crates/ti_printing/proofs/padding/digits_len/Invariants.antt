use Rattle.std.proofs.Common.{◌≡◌, ◌+◌, ◌-◌, ◌≤◌, drop}
use Rattle.ti_printing.specs.inside.Padding.{digits_len}
use Rattle.ti_printing.proofs.padding.digits_len.Given as goal

-- the digits so far and those to come are all
abbrev pub invariant-loop-len : goal.invariant-loop-len
invariant-loop-len l = record { bound : l.len ≤ 5; total : l.len + digits_len (5 - l.len) (drop l.len l.text) ≡ digits_len 5 l.text }

abbrev pub decreases-loop-len : goal.decreases-loop-len
decreases-loop-len l = 5 - l.len
