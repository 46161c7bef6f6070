use Rattle.std.proofs.Common.{sym, ◌∙◌, arith}
use Rattle.ti_spelling.proofs.OctalDigits.{IsOctalRead, reads_digit, stops_at_three, stops_at_other}
use Rattle.ti_spelling.proofs.spelling.octal_front.Goals as goal
use Rattle.ti_spelling.proofs.spelling.octal_front.Goals.{then-count-eq-MOST_OCTAL_DIGITS-via-then-count-eq-MOST_OCTAL_DIGITS}
use Rattle.ti_spelling.proofs.spelling.octal_front.Goals.{then-count-eq-MOST_OCTAL_DIGITS-via-else-count-eq-MOST_OCTAL_DIGITS+then-not-is_octal_digit}

pub loop-digit-preserved : goal.loop-digit-preserved
loop-digit-preserved c =
    let step = reads_digit c.args.text.now c.loop-digit.value c.loop-digit.count c.loop-digit.digit-index c.loop-digit-test.true
    c.if-count-eq-MOST_OCTAL_DIGITS.false (sym c.is_octal_digit.ensures ∙ c.if-not-is_octal_digit.false) c.loop-digit.invariant.front in
    record { counted = omega arith; front = rw c.from.ensures step }

pub returns-then-count-eq-MOST_OCTAL_DIGITS : goal.returns-then-count-eq-MOST_OCTAL_DIGITS
returns-then-count-eq-MOST_OCTAL_DIGITS c =
    let found : IsOctalRead c.args.text.now c.loop-digit.value c.loop-digit.count = elim c.then-count-eq-MOST_OCTAL_DIGITS.branch [
      | then-count-eq-MOST_OCTAL_DIGITS-via-then-count-eq-MOST_OCTAL_DIGITS w ↦ stops_at_three _ _ _ _ w.if-count-eq-MOST_OCTAL_DIGITS.true
          c.loop-digit.invariant.front
      | then-count-eq-MOST_OCTAL_DIGITS-via-else-count-eq-MOST_OCTAL_DIGITS+then-not-is_octal_digit w ↦ stops_at_other _ _ _ c.loop-digit.digit-index
          c.loop-digit-test.true (sym w.is_octal_digit.ensures ∙ w.if-not-is_octal_digit.true) c.loop-digit.invariant.front
    ] in
    record { value = sym found.value_is; count = sym found.count_is }
