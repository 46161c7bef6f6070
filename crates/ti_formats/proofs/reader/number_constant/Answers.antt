use Rattle.std.proofs.Common.{arith, ap, sym, ◌∙◌, inl, inr}
use Rattle.std.specs.Int.{w32}
use Rattle.std.proofs.lemmas.Int.{to_z_pos}
use Rattle.std.proofs.lemmas.List.{nil_from_length}
use Rattle.ti_formats.specs.inside.Codes.{code_of}
use Rattle.ti_formats.proofs.Numbers.{number-none, number-refused, number-read}
use Rattle.ti_formats.proofs.reader.number_constant.Goals as goal

pub returns-in_err-brace : goal.returns-in_err-brace
returns-in_err-brace c = rw c.from_residual.ensures
    (sym (ap code_of (number-none c.args.text.now (sym c.number-value.ensures.rest ∙ nil_from_length _ c.in_err-brace.ensures.cases))))

pub returns-then-brace-ne125 : goal.returns-then-brace-ne125
returns-then-brace-ne125 c =
    sym (ap code_of (number-refused c.args.text.now c.number-value.result.1.now c.in_ok-brace.rest.now c.in_ok-brace.field-0-0.now c.number-value.result.0
    c.number-value.ensures.rest c.in_ok-brace.ensures.cases.0 c.number-value.ensures.value
    (λ brace some small. elim c.then-brace-ne125.either [
      | inl other ↦ other brace
      | inr later ↦
          elim later [ inl none ↦ some none.1 | inr large ↦ omega (arith, large.2) ]
    ])))

pub returns : goal.returns
returns c =
    rw (to_z_pos w32 c.number-value.result.0 (omega arith))
    (sym (ap code_of (number-read c.args.text.now c.number-value.result.1.now c.in_ok-brace.rest.now c.in_ok-brace.field-0-0.now c.number-value.result.0
    c.number-value.ensures.rest c.in_ok-brace.ensures.cases.0 c.number-value.ensures.value
    c.if-brace-ne125.false c.if-after-text.false c.if-value-gt-LARGEST.false)))
