use Rattle.ti_text.specs.Digits.{decimal_value}
use Rattle.std.proofs.Common.{◌≡◌, ◌^◌, ◌<◌, take}
use Rattle.ti_printing.specs.Padding.{}
use Rattle.ti_printing.proofs.padding.milliseconds_at.Given as goal

-- the number that the digits so far write
abbrev pub invariant-loop-digit : goal.invariant-loop-digit
invariant-loop-digit l = record { value : l.whole ≡ decimal_value (take l.digit-index l.digits); bound : l.whole < 10 ^ l.digit-index }
