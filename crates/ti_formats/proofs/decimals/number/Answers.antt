use Rattle.std.proofs.Common.{◌≡◌, min, true, false, [], ◌∷◌, ap, sym, ◌∙◌, arith}
use Rattle.std.proofs.lemmas.List.{nil_from_length}
use Rattle.ti_formats.specs.Codes.{span}
use Rattle.ti_text.specs.Digits.{is_decimal_digit, decimal_from}
use Rattle.ti_formats.proofs.Numbers.{span-go, span-end, number-step, number-ends}
use Rattle.ti_formats.proofs.decimals.number.Goals as goal
use Rattle.ti_formats.proofs.decimals.number.Goals.{in-Some+then-not-is_ascii_digit, in_default}

pub loop-byte-preserved : goal.loop-byte-preserved
loop-byte-preserved c =
    let digit : is_decimal_digit c.in-Some.field-0-0.now ≡ true = sym c.is_ascii_digit.ensures.value ∙ c.if-not-is_ascii_digit.false in
    let front : span is_decimal_digit c.loop-byte.rest.now ≡ (
      c.in-Some.field-0-0.now ∷ (span is_decimal_digit c.in-Some.after.now).0,
      (span is_decimal_digit c.in-Some.after.now).1,
    ) =
    rw c.in-Some.ensures.cases.0 (span-go is_decimal_digit c.in-Some.field-0-0.now c.in-Some.after.now digit) in
    record {
      fits = omega arith;
      value = number-step c.loop-byte.value c.saturating_add-value.result c.in-Some.field-0-0.now _ (span is_decimal_digit c.in-Some.after.now).0
          (omega arith) (sym (ap (λ s. min (decimal_from c.loop-byte.value s.0) 4294967295) front) ∙ c.loop-byte.invariant.value);
      rest = sym (ap (λ s. s.1) front) ∙ c.loop-byte.invariant.rest;
    }

pub returns-clause-value : goal.returns-clause-value
returns-clause-value c =
    elim c.match-split_first.branch [
      | in-Some+then-not-is_ascii_digit w ↦
          let other : is_decimal_digit w.in-Some.field-0-0.now ≡ false = sym w.is_ascii_digit.ensures.value ∙ w.if-not-is_ascii_digit.true in
          let front : span is_decimal_digit c.loop-byte.rest.now ≡ ([], w.in-Some.field-0-0.now ∷ w.in-Some.after.now) =
          rw w.in-Some.ensures.cases.0 (span-end is_decimal_digit w.in-Some.field-0-0.now w.in-Some.after.now other) in
          number-ends c.loop-byte.value _ (span is_decimal_digit c.loop-byte.rest.now).0 c.loop-byte.invariant.fits
          (ap (λ s. s.0) front) c.loop-byte.invariant.value
      | in_default w ↦
          let none : c.loop-byte.rest.now ≡ [] = nil_from_length _ w.in_default.ensures.cases in
          number-ends c.loop-byte.value _ (span is_decimal_digit c.loop-byte.rest.now).0 c.loop-byte.invariant.fits
          (ap (λ s. (span is_decimal_digit s).0) none) c.loop-byte.invariant.value
    ]
