use Rattle.std.proofs.Common.{◌≡◌, ◌-◌, drop}
use Rattle.ti_spelling.proofs.OctalDigits.{IsOctalFront}
use Rattle.ti_spelling.proofs.spelling.octal_front.Given as goal

abbrev pub invariant-loop-digit : goal.invariant-loop-digit
invariant-loop-digit l = record {
  counted : l.count ≡ l.digit-index;
  front : IsOctalFront l.text l.value l.count (3 - l.count) (drop l.digit-index l.text);
}
