use Rattle.std.proofs.Common.{◌≡◌, ◌∷◌, [], refl, sym, ◌∙◌, ap}
use Rattle.std.specs.Prelude.{Some, None}
use Rattle.std.proofs.lemmas.List.{nil_from_length}
use Rattle.ti_formats.specs.inside.Codes.{directive_with, precision_after}
use Rattle.ti_formats.proofs.Numbers.{directive-parts, width-large, conversion-unknown, directive-read}
use Rattle.ti_formats.proofs.directives.directive.Goals as goal

pub returns-in_err-precision : goal.returns-in_err-precision
unfolding directive_with
returns-in_err-precision c =
    let parts = directive-parts c.args.text.now c.flags.result.1.now c.number-width.result.1.now c.flags.result.0 c.flags.ensures c.number-width.ensures.rest in
    let none : precision_after c.number-width.result.1.now ≡ None = sym c.in_err-precision.ensures in
    rw c.from_residual.ensures (sym (parts ∙ rw none refl))

pub returns-in_err-letter : goal.returns-in_err-letter
unfolding directive_with
returns-in_err-letter c =
    let parts = directive-parts c.args.text.now c.flags.result.1.now c.number-width.result.1.now c.flags.result.0 c.flags.ensures c.number-width.ensures.rest in
    let found : precision_after c.number-width.result.1.now ≡ Some (c.in_ok-precision.precision, []) =
    sym c.in_ok-precision.ensures ∙ ap (λ t. Some (c.in_ok-precision.precision, t)) (nil_from_length _ c.in_err-letter.ensures.cases) in
    rw c.from_residual-in_err-letter.ensures (sym (parts ∙ rw found refl))

pub returns-then-width-gt-SIZE_MAX : goal.returns-then-width-gt-SIZE_MAX
returns-then-width-gt-SIZE_MAX c =
    let parts = directive-parts c.args.text.now c.flags.result.1.now c.number-width.result.1.now c.flags.result.0 c.flags.ensures c.number-width.ensures.rest in
    let found : precision_after c.number-width.result.1.now ≡ Some (c.in_ok-precision.precision, c.in_ok-letter.field-0-0.now ∷ c.in_ok-letter.rest.now) =
    sym c.in_ok-precision.ensures ∙ ap (λ t. Some (c.in_ok-precision.precision, t)) c.in_ok-letter.ensures.cases.0 in
    sym (parts ∙ rw found (width-large _ _ _ _ _ c.number-width.result.0 c.number-width.ensures.value c.if-width-gt-SIZE_MAX.true))

pub returns-in_err-conversion : goal.returns-in_err-conversion
returns-in_err-conversion c =
    let parts = directive-parts c.args.text.now c.flags.result.1.now c.number-width.result.1.now c.flags.result.0 c.flags.ensures c.number-width.ensures.rest in
    let found : precision_after c.number-width.result.1.now ≡ Some (c.in_ok-precision.precision, c.in_ok-letter.field-0-0.now ∷ c.in_ok-letter.rest.now) =
    sym c.in_ok-precision.ensures ∙ ap (λ t. Some (c.in_ok-precision.precision, t)) c.in_ok-letter.ensures.cases.0 in
    rw c.from_residual-in_err-conversion.ensures (sym (parts ∙ rw found (conversion-unknown _ _ _ _ _ (sym c.in_err-conversion.ensures))))

pub returns : goal.returns
returns c =
    let parts = directive-parts c.args.text.now c.flags.result.1.now c.number-width.result.1.now c.flags.result.0 c.flags.ensures c.number-width.ensures.rest in
    let found : precision_after c.number-width.result.1.now ≡ Some (c.in_ok-precision.precision, c.in_ok-letter.field-0-0.now ∷ c.in_ok-letter.rest.now) =
    sym c.in_ok-precision.ensures ∙ ap (λ t. Some (c.in_ok-precision.precision, t)) c.in_ok-letter.ensures.cases.0 in
    sym (parts ∙ rw found (directive-read _ _ _ _ _ c.number-width.result.0 _ _ c.number-width.ensures.value c.if-width-gt-SIZE_MAX.false
    c.begins_with_zero-zero.ensures (sym c.in_ok-conversion.ensures)))
